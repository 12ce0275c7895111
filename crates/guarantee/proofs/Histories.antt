-- What a history leaves out altered nothing, and what it has was done.
use Rattle.std.proofs.Common.{◌≡◌, ℕ, None, Option, sym, refl, subst}
use Rattle.terms.specs.declared.refusals.Refusal.{Refusal}
use Rattle.history.specs.Events.{Operation}
use Rattle.history.specs.Events.Operation.{abandons, commits, opens, reads, writes}
use Rattle.rules.specs.JobCalls.{Outcome, accepted, refused}
use Rattle.rules.specs.Registers.{Register}
use Rattle.rules.specs.declared.calls.Call.{Call}
use Rattle.rules.specs.declared.calls.Call.TheVariants.{Abandon, Commit, Open, Read, Write}
use Rattle.guarantee.specs.Histories.{AnswerIsTrue, HistoriesAreTrue, RefusalIsTrue, operation_refused}
use Rattle.guarantee.proofs.Passing.{commit_by, outcome_by, read_by, wrong_table}

module _ {V : Type 0} (d : V) (pick : ℕ → ℕ → ℕ) (r : Register V) where
  abbrev TrueOf : Call V → Outcome V → Type 0
  TrueOf k o = AnswerIsTrue pick r k o o.answer

  refused_true : (k : Call V) (e : Refusal) → operation_refused {V = V} e ≡ None → TrueOf k (refused e r)
  refused_true k e q = subst (λ (step : Option (Operation V V ℕ)). RefusalIsTrue pick r k (refused e r) e step) (sym q) refl

  accepted_true : (k : Call V) → TrueOf k (accepted d pick r k)
  accepted_true (Open w) = (opens, refl, refl)
  accepted_true (Read w c) = read_by (TrueOf (Read w c)) d pick r w.0 c.0 (λ e. (reads c.0 _, refl, refl)) (λ e l. (refl, refl)) (λ e l. (reads c.0 _, refl, refl))
  accepted_true (Write w c v) = (writes c.0 v, refl, refl)
  accepted_true (Commit w) = commit_by (TrueOf (Commit w)) d pick r w.0 (λ l. (refl, refl)) (λ l. (commits _, refl, refl))
  accepted_true (Abandon w) = (abandons _, refl, refl)

pub histories_are_true : (V : Type 0) → HistoriesAreTrue V
histories_are_true V = record {
  answers = λ d pick r k. outcome_by (TrueOf d pick r k) d pick r k (refused_true d pick r k) (λ ns. accepted_true d pick r k);
  wrong_tables = wrong_table;
}
