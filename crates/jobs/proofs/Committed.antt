-- The two endings of a commit that no test refuses.
use Rattle.std.proofs.Common.{◌≡◌, ℕ, ◌+◌, ◌<◌, ◌≤◌, Bool, true, false, cond, ltb, [], Some, None, Ok, Err, Option, sym, ap, ◌∙◌, subst}
use Rattle.std.proofs.lemmas.Bool.{lt-ltb, le-ltb}
use Rattle.terms.specs.declared.numbers.Place.{Place}
use Rattle.terms.specs.declared.numbers.CrewNumber.{CrewNumber}
use Rattle.terms.specs.declared.records.Entry.{Entry}
use Rattle.terms.specs.declared.records.Ending.TheVariants.{Committed, Abandoned}
use Rattle.terms.specs.declared.refusals.Refusal.{Refusal}
use Rattle.terms.specs.declared.refusals.Refusal.TheVariants.{NoPlace}
use Rattle.choosers.specs.Meaning.{Meaning}
use Rattle.rules.specs.declared.calls.Call.TheVariants.{Commit}
use Rattle.rules.specs.declared.calls.Answer.TheVariants.{Ended}
use Rattle.rules.specs.Refusing.{first_refusal, if_refused}
use Rattle.rules.specs.Registers.{Register, high_of}
use Rattle.rules.specs.JobCalls.{Outcome, outcome, refused, commit_outcome, committed_at, abandon_outcome, commit_low, entry_of}
use Rattle.rules.specs.Performing.{Performs, moved_if, Entered, with_book}
use Rattle.admission.specs.Lent.{job_tests}
use Rattle.endings.specs.Endings.{ended_at, AbandonedAt}
use Rattle.commits.specs.Committing.{stored_at, CommittedAt}

module _ {V : Type 0} (d : V) (r r' : Register V) (f f' : Meaning) (crew : CrewNumber) (p : Place) (none : None ≡ first_refusal (job_tests r false crew.0)) where
  turned : (b : Bool) → ltb (high_of r crew.0) (commit_low r crew.0 + 2) ≡ b
      → outcome d (f []) r (Commit crew) ≡ cond b (abandon_outcome (f []) r crew.0 (λ q. Err (NoPlace q))) (committed_at d r crew.0 (f [] (commit_low r crew.0) (high_of r crew.0)))
  turned b e =
      ap (λ (x : Option Refusal). if_refused x (λ e. refused e r) (commit_outcome d (f []) r crew.0)) (sym none)
      ∙ ap (λ (t : Bool). cond t (abandon_outcome (f []) r crew.0 (λ q. Err (NoPlace q))) (committed_at d r crew.0 (f [] (commit_low r crew.0) (high_of r crew.0)))) e

  pub commit_abandons : high_of r crew.0 < commit_low r crew.0 + 2 → AbandonedAt r f crew.0 p.0 r' f' → Performs d r f (Commit crew) (Err (NoPlace p)) r' f'
  commit_abandons l g = let o = turned true (lt-ltb _ _ l) in record {
    answers = ap (λ (q : ℕ). Err (NoPlace (record { 0 = q }))) g.place ∙ sym (ap (λ (x : Outcome V). x.answer) o);
    leaves = g.leaves ∙ (ap (λ (q : ℕ). with_book (ended_at r crew.0 q) r'.tables.book) g.place ∙ sym (ap (λ (x : Outcome V). with_book x.left r'.tables.book) o));
    asks = g.asks ∙ sym (ap (λ (x : Outcome V). moved_if f x.asked) o);
    enters = subst (λ (x : Option Entry). Entered r.head.ended x r.tables.book r'.tables.book) (ap (λ (q : ℕ). Some (entry_of r crew.0 q Abandoned)) g.place ∙ sym (ap (λ (x : Outcome V). x.entry) o)) g.enters;
  }

  pub commit_stores : commit_low r crew.0 + 2 ≤ high_of r crew.0 → CommittedAt d r f crew.0 p.0 r' f' → Performs d r f (Commit crew) (Ok (Ended p)) r' f'
  commit_stores l g = let o = turned false (le-ltb _ _ l) in record {
    answers = ap (λ (q : ℕ). Ok (Ended (record { 0 = q }))) g.place ∙ sym (ap (λ (x : Outcome V). x.answer) o);
    leaves = g.leaves ∙ (ap (λ (q : ℕ). with_book (ended_at (stored_at d r crew.0 q) crew.0 q) r'.tables.book) g.place ∙ sym (ap (λ (x : Outcome V). with_book x.left r'.tables.book) o));
    asks = g.asks ∙ sym (ap (λ (x : Outcome V). moved_if f x.asked) o);
    enters = subst (λ (x : Option Entry). Entered r.head.ended x r.tables.book r'.tables.book) (ap (λ (q : ℕ). Some (entry_of r crew.0 q Committed)) g.place ∙ sym (ap (λ (x : Outcome V). x.entry) o)) g.enters;
  }
