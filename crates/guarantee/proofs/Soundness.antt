-- No call ever damages a register that was just started.
use Rattle.std.proofs.Common.{◌≡◌, ℕ, ◌+◌, ◌≤◌, Bool, true, false, not, ◌&&◌, eqb, ltb, List, [], Ok, Err, Option, Result, sym, refl, ap, ◌∙◌, subst, arith, lit≤}
use Rattle.std.proofs.lemmas.List.{length-take-le}
use Rattle.std.proofs.lemmas.Bool.{cond_both, and_parts, not-false, both_ways}
use Rattle.rules.proofs.Accepting.{sizes_pass}
use Rattle.terms.specs.declared.records.Entry.{Entry}
use Rattle.terms.specs.declared.refusals.Refusal.{Refusal}
use Rattle.terms.specs.declared.refusals.Refusal.TheVariants.{BadLine, BadSize, BookFull, Damaged, JobOpen, NoCell, NoCrew, NoJob, NoPlace, NotFilled, PaperFull, PlacesSpent, Stale, WrongTable}
use Rattle.choosers.specs.Meaning.{KeepsLaw, Meaning}
use Rattle.history.specs.Events.{History}
use Rattle.rules.specs.Contents.{Fits}
use Rattle.rules.specs.JobCalls.{Outcome, accepted, call_tests, crew_of, damaged, is_opening, outcome, refused, wrong_cell}
use Rattle.rules.specs.Limits.{top}
use Rattle.rules.specs.Making.{JustStarted}
use Rattle.rules.specs.Performing.{All}
use Rattle.rules.specs.Refusing.{first_refusal, if_refused}
use Rattle.rules.specs.Registers.{Register, has_job, record_of}
use Rattle.rules.specs.Runs.{Run, Step}
use Rattle.rules.specs.Tables.{outside}
use Rattle.rules.specs.declared.calls.Answer.{Answer}
use Rattle.rules.specs.declared.calls.Call.{Call}
use Rattle.rules.specs.declared.calls.Call.TheVariants.{Abandon, Commit, Open, Read, Write}
use Rattle.rules.proofs.Changing.{inside}
use Rattle.guarantee.specs.Histories.{history_of}
use Rattle.guarantee.specs.Opacity.{Names, day_book}
use Rattle.guarantee.specs.RuleFacts.{SoundHead}
use Rattle.guarantee.specs.Soundness.{EveryRunIsSound}
use Rattle.guarantee.proofs.Counting.{busy_at}
use Rattle.guarantee.proofs.Invariant.{Inv, facts_of}
use Rattle.guarantee.proofs.Opacity.{b, invariant, tracking}
use Rattle.guarantee.proofs.Orders.{all_map}
use Rattle.guarantee.proofs.Passing.{commit_by, not_damaged, outcome_by, read_by}
use Rattle.guarantee.proofs.RuleFacts.{every_call_can_be_performed}
use Rattle.guarantee.proofs.Started.{fresh}
use Rattle.guarantee.proofs.Tied.{tied_open}

abbrev Unharmed : Refusal → Type 0
Unharmed NoCrew = Unit {0}
Unharmed NoCell = Unit {0}
Unharmed JobOpen = Unit {0}
Unharmed NoJob = Unit {0}
Unharmed PlacesSpent = Unit {0}
Unharmed BookFull = Unit {0}
Unharmed (Stale p) = Unit {0}
Unharmed (NoPlace p) = Unit {0}
Unharmed (WrongTable t) = ⊥
Unharmed Damaged = ⊥
Unharmed (BadLine b) = Unit {0}
Unharmed PaperFull = Unit {0}
Unharmed BadSize = Unit {0}
Unharmed NotFilled = Unit {0}

abbrev SoundAnswer : {V : Type 0} → Result (Answer V) Refusal → Type 0
SoundAnswer (Ok a) = Unit {0}
SoundAnswer (Err e) = Unharmed e

---- The next call

module _ {V : Type 0} (r : Register V) (fits : Fits r.head.sizes r.tables) (undamaged : (w : ℕ) → 1 ≤ w → w ≤ r.head.sizes.crews → has_job r w ≡ true → damaged r w ≡ false) (d : V) (pick : ℕ → ℕ → ℕ) where
  accepted_sound : (k : Call V) → SoundAnswer (accepted d pick r k).answer
  accepted_sound (Open w) = tt
  accepted_sound (Read w c) = read_by (λ (o : Outcome V). SoundAnswer o.answer) d pick r w.0 c.0 (λ e. tt) (λ e l. tt) (λ e l. tt)
  accepted_sound (Write w c v) = tt
  accepted_sound (Commit w) = commit_by (λ (o : Outcome V). SoundAnswer o.answer) d pick r w.0 (λ l. tt) (λ l. tt)
  accepted_sound (Abandon w) = tt

  module _ (k : Call V) where
    abbrev Answered : Option Refusal → Type 0
    Answered q = SoundAnswer (if_refused q (λ e. refused e r) (accepted d pick r k)).answer

    clash : (new : Bool) (w : ℕ) → outside r.head.sizes.crews w ≡ false → (not new && not (has_job r w)) ≡ false → (not new && damaged r w) ≡ true → ⊥
    clash new w i has bad =
        let b = and_parts (not new) (damaged r w) bad in
        let n : not (has_job r w) ≡ false = rw b.0 at has in
        let u = inside r.head.sizes.crews w i in
        both_ways (damaged r w) (undamaged w u.0 u.1 (not-false (has_job r w) n)) b.1

    tests_sound : (new wrong : Bool) (w : ℕ) → Answered (first_refusal (call_tests r new wrong w))
    tests_sound new wrong w =
        cond_both (outside r.head.sizes.crews w) _ _ Answered (λ e. tt) (λ i.
        cond_both wrong _ _ Answered (λ e. tt) (λ c.
        cond_both (new && has_job r w) _ _ Answered (λ e. tt) (λ f.
        cond_both (not new && not (has_job r w)) _ _ Answered (λ e. tt) (λ has.
        cond_both (not new && damaged r w) _ _ Answered (λ bad. absurd (clash new w i has bad)) (λ u.
        cond_both (new && ltb top (r.head.highest + 2)) _ _ Answered (λ e. tt) (λ p.
        cond_both (new && eqb (r.head.ended + r.head.active) r.head.sizes.entries) _ _ Answered (λ e. tt) (λ b. accepted_sound k)))))))

    pub answer_sound : SoundAnswer (outcome d pick r k).answer
    answer_sound = subst Answered (sym (sizes_pass r.head.sizes r.tables (call_tests r (is_opening k) (wrong_cell r.head.sizes.cells k) (crew_of k)) fits)) (tests_sound (is_opening k) (wrong_cell r.head.sizes.cells k) (crew_of k))

---- The sizes stay

accepted_sizes : {V : Type 0} (d : V) (pick : ℕ → ℕ → ℕ) (r : Register V) (k : Call V) → (accepted d pick r k).left.head.sizes ≡ r.head.sizes
accepted_sizes d pick r (Open w) = refl
accepted_sizes {V} d pick r (Read w c) = read_by (λ (o : Outcome V). o.left.head.sizes ≡ r.head.sizes) d pick r w.0 c.0 (λ e. refl) (λ e l. refl) (λ e l. refl)
accepted_sizes d pick r (Write w c v) = refl
accepted_sizes {V} d pick r (Commit w) = commit_by (λ (o : Outcome V). o.left.head.sizes ≡ r.head.sizes) d pick r w.0 (λ l. refl) (λ l. refl)
accepted_sizes d pick r (Abandon w) = refl

outcome_sizes : {V : Type 0} (d : V) (pick : ℕ → ℕ → ℕ) (r : Register V) (k : Call V) → (outcome d pick r k).left.head.sizes ≡ r.head.sizes
outcome_sizes {V} d pick r k = outcome_by (λ (o : Outcome V). o.left.head.sizes ≡ r.head.sizes) d pick r k (λ e q. refl) (λ ns. accepted_sizes d pick r k)

pub first_sound : {V : Type 0} (s : Register V) → JustStarted s.head s.tables → SoundHead s.head
first_sound s j =
    let h = fresh s j in
    let t : 1 ≤ top = lit≤ tt in
    record { under_top = omega (arith, h.highest_is); in_book = omega (arith, h.ended_is, h.active_is) }

module _ {V : Type 0} (d : V) (s : Register V) (f₀ : Meaning) (j : JustStarted s.head s.tables) (ke : KeepsLaw f₀) where
  head_kept : {log : List (Step V)} {r : Register V} {f : Meaning} → Run d s f₀ log r f → (r.head.sizes ≡ s.head.sizes) × SoundHead r.head
  head_kept Run.starts = (refl, first_sound s j)
  head_kept (Run.then {r = r} {f = f} {k = k} {r' = r'} rn p) =
      let ih = head_kept rn in
      let keeps = (invariant d s f₀ j ke rn).0.keeps in (
        ap (λ (x : Register V). x.head.sizes) p.leaves ∙ (outcome_sizes d (f []) r k ∙ ih.0),
        subst (λ (x : Register V). SoundHead x.head) (sym p.leaves) ((every_call_can_be_performed V).stays_sound d f r k keeps ih.1),
      )
  head_kept (Run.passed_over rn) = head_kept rn

---- At every moment

module _ {V : Type 0} (d : V) (s : Register V) (run : History V) (r : Register V) (f : Meaning) (inv : Inv d s run r f) where
  undamaged : (w : ℕ) → 1 ≤ w → w ≤ r.head.sizes.crews → has_job r w ≡ true → damaged r w ≡ false
  undamaged w a b h =
      let v = (facts_of inv).view_facts in
      let o = tied_open (has_job r w) (record_of r w) (inv.view.job w) (inv.view.low w) (inv.view.high w) h (inv.tie.job_is w a b) in
      let room = v.room w (rw (← v.job_is w) o.1) in
      not_damaged r w (record {
        has = h;
        room = omega (arith, o.2, o.3, room);
        under_top = omega (arith, o.3, inv.tie.under_top w);
        counted = rw inv.tie.active_is (busy_at inv.view.job w r.head.sizes.crews a b o.1);
      })

  under_highest : (es : List Entry) → All (Names run) es → All (λ e. e.place.0 ≤ r.head.highest) es
  under_highest es = all_map (Names run) (λ e. e.place.0 ≤ r.head.highest) es (λ e n. omega (arith, (tracking d s run r f inv).below_highest e.job.0 e.place.0 n.place_is, inv.tie.highest_is))

pub every_run_is_sound : (V : Type 0) → EveryRunIsSound V
every_run_is_sound V d s f₀ j ke log r f rn =
    let g = (invariant d s f₀ j ke rn).0 in
    let h = head_kept d s f₀ j ke rn in
    let fits = g.tie.fits in
    let safe = answer_sound r fits (undamaged d s (history_of log) r f g) in record {
      same_sizes = h.0;
      tables_fit = fits;
      head_sound = h.1;
      jobs_counted = sym g.tie.opened_is ∙ (facts_of g).view_facts.opened_is;
      ended_counted = length-take-le r.head.ended r.tables.book (omega (arith, h.1.in_book, fits.book));
      highest_place = under_highest d s (history_of log) r f g (day_book r) g.booked.entries;
      no_wrong_table = λ e pick k table q. subst SoundAnswer q (safe e pick k);
      not_damaged = λ e pick k q. subst SoundAnswer q (safe e pick k);
    }
