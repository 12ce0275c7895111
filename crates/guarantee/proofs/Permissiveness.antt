-- The whole list, both ways.
use Rattle.std.proofs.Common.{ℕ, ◌+◌, ◌≤◌, ◌&&◌, leb, List, [], ◌∷◌, Some, None, Option, Result, sym, refl, ap, subst, arith, lit≤}
use Rattle.std.proofs.lemmas.Bool.{and_parts, leb-true}
use Rattle.terms.specs.declared.refusals.Refusal.{Refusal}
use Rattle.choosers.specs.Lawful.{script_lawful}
use Rattle.choosers.specs.Meaning.{KeepsLaw, Meaning}
use Rattle.choosers.specs.Script.{script_meaning}
use Rattle.history.specs.Acceptance.{RunWith}
use Rattle.history.specs.Events.{History, Operation}
use Rattle.history.specs.Precedence.{Extends}
use Rattle.history.specs.Precedence.Extends.{here, later}
use Rattle.history.specs.Views.{RegisterView, fresh_view}
use Rattle.history.specs.WellMade.{Calls}
use Rattle.history.proofs.Alike.{Alike, SameCall, by_jobs_alike, calls_alike, order_alike}
use Rattle.history.proofs.Alike.Alike.{more, none}
use Rattle.history.proofs.Alike.SameCall.{abandon_abandon, commit_commit, open_open, read_read, write_write}
use Rattle.history.proofs.Choosing.{positions_script}
use Rattle.rules.specs.JobCalls.{Outcome, accepted, crew_of, outcome}
use Rattle.rules.specs.Heads.{Dimensions, SizesInRange}
use Rattle.rules.specs.Limits.{most_cells, most_crews, most_entries, top}
use Rattle.rules.specs.Making.{JustStarted}
use Rattle.rules.specs.Registers.{Register, own_of}
use Rattle.rules.specs.Runs.{Performed, Run, Step}
use Rattle.rules.specs.declared.calls.Answer.{Answer}
use Rattle.rules.specs.declared.calls.Call.{Call}
use Rattle.rules.specs.declared.calls.Call.TheVariants.{Abandon, Commit, Open, Read, Write}
use Rattle.guarantee.specs.Histories.{events_of, history_of, made_by, operation, operation_of, with_operation}
use Rattle.guarantee.specs.Opacity.{cell_values}
use Rattle.guarantee.specs.Permissiveness.{AcceptedCallsHaveAnOrder, AllAccepted, EveryListCanBePerformed, EveryRunAccepts, HasSerializationOrder, IsAccepted}
use Rattle.guarantee.specs.Permissiveness.{IsOrderOf, IsPermissive, RegisterIsPermissive, RunOf, SomeRunAccepts, WellMadeCalls, script_by}
use Rattle.guarantee.specs.RuleFacts.{SoundHead}
use Rattle.guarantee.proofs.Accepting.{Abreast, performed, sizes_of}
use Rattle.guarantee.proofs.Invariant.{keeps_on, start_tie}
use Rattle.guarantee.proofs.Opacity.{every_run_is_opaque}
use Rattle.guarantee.proofs.Passing.{commit_by, outcome_by, read_by}
use Rattle.guarantee.proofs.RuleFacts.{every_call_can_be_performed}
use Rattle.guarantee.proofs.Soundness.{first_sound}

---- From a run to an order: each call that was accepted is a operation of its kind

abbrev Kind : {V : Type 0} → Call V → Option (Operation V V ℕ) → Type 0
Kind k None = ⊥
Kind k (Some e) = SameCall e (operation k)

abbrev KindIfAccepted : {V : Type 0} → Call V → Result (Answer V) Refusal → Type 0
KindIfAccepted k a = IsAccepted a → Kind k (operation_of k a)

module _ {V : Type 0} (d : V) where
  accepted_kind : (f : Meaning) (r : Register V) (k : Call V) → KindIfAccepted k (accepted d (f []) r k).answer
  accepted_kind f r (Open w) = λ i. open_open
  accepted_kind f r (Read w c) = read_by (λ (o : Outcome V). KindIfAccepted (Read w c) o.answer) d (f []) r w.0 c.0 (λ e i. read_read) (λ e l i. absurd i) (λ e l i. read_read)
  accepted_kind f r (Write w c v) = λ i. write_write
  accepted_kind f r (Commit w) = commit_by (λ (o : Outcome V). KindIfAccepted (Commit w) o.answer) d (f []) r w.0 (λ l i. absurd i) (λ l i. commit_commit)
  accepted_kind f r (Abandon w) = λ i. abandon_abandon

  outcome_kind : (f : Meaning) (r : Register V) (k : Call V) → KindIfAccepted k (outcome d (f []) r k).answer
  outcome_kind f r k = outcome_by (λ (o : Outcome V). KindIfAccepted k o.answer) d (f []) r k (λ e q i. absurd i) (λ ns. accepted_kind f r k)

  joined : (k : Call V) (x : Option (Operation V V ℕ)) (run : History V) (ks : List (Call V)) → Kind k x → Alike run (events_of ks) → Alike (with_operation (crew_of k) x run) (events_of (k ∷ ks))
  joined k None run ks m a = absurd m
  joined k (Some e) run ks m a = more m a

  run_alike : (s : Register V) (f₀ : Meaning) {log : List (Step V)} {r : Register V} {f : Meaning} → Run d s f₀ log r f → AllAccepted log → Alike (history_of log) (events_of (made_by log))
  run_alike s f₀ Run.starts ok = none
  run_alike s f₀ (Run.then {log = log} {r = r} {f = f} {k = k} {a = a} rn p) ok =
      joined k (operation_of k a) (history_of log) (made_by log) (subst (KindIfAccepted k) (sym p.answers) (outcome_kind f r k) ok.0) (run_alike s f₀ rn ok.1)
  run_alike s f₀ (Run.passed_over rn) ok = absurd ok.0

pub accepted_calls_have_order : (V : Type 0) → AcceptedCallsHaveAnOrder V
accepted_calls_have_order V d s f₀ j k log r f rn ok =
    let o = (every_run_is_opaque V d s f₀ j k log r f rn).1 in
    (o.0, order_alike (by_jobs_alike (run_alike d s f₀ rn ok)) o.1.serialization_order)

-- calls performed are a run
pub performed_run : {V : Type 0} (d : V) (s : Register V) (f₀ : Meaning) {log : List (Step V)} {r : Register V} {f : Meaning} → Performed d s f₀ log r f → Run d s f₀ log r f
performed_run d s f₀ Performed.starts = Run.starts
performed_run d s f₀ (Performed.then g p) = Run.then (performed_run d s f₀ g) p

---- There is a run

record SoundRun {V : Type 0} (d : V) (s : Register V) (f₀ : Meaning) (ks : List (Call V)) : Type 0 where
  run : RunOf d s f₀ ks
  sound : SoundHead run.register.head
  keeps : KeepsLaw run.meaning

one_more : {V : Type 0} (d : V) (s : Register V) (f₀ : Meaning) (k : Call V) (ks : List (Call V)) → SoundRun d s f₀ ks → SoundRun d s f₀ (k ∷ ks)
one_more {V} d s f₀ k ks g =
    let r = g.run.register in
    let f = g.run.meaning in
    let p = (every_call_can_be_performed V).performed d f r k g.sound in
    let q = (every_call_can_be_performed V).stays_sound d f r k g.keeps g.sound in
    record {
      run = record { log = (k, p.0) ∷ g.run.log; register = p.1; meaning = p.2; performed = Performed.then g.run.performed p.3; whole = ap (λ (x : List (Call V)). k ∷ x) g.run.whole };
      sound = subst (λ (x : Register V). SoundHead x.head) (sym p.3.leaves) q;
      keeps = subst KeepsLaw (sym p.3.asks) (keeps_on f (outcome d (f []) r k).asked g.keeps);
    }

sound_run : {V : Type 0} (d : V) (s : Register V) (f₀ : Meaning) → SoundHead s.head → KeepsLaw f₀ → (ks : List (Call V)) → SoundRun d s f₀ ks
sound_run d s f₀ so ke [] = record { run = record { log = []; register = s; meaning = f₀; performed = Performed.starts; whole = refl }; sound = so; keeps = ke }
sound_run d s f₀ so ke (k ∷ ks) = one_more d s f₀ k ks (sound_run d s f₀ so ke ks)

pub every_list_can_be_performed : (V : Type 0) → EveryListCanBePerformed V
every_list_can_be_performed V d s f j ke ks = (sound_run d s f (first_sound s j) ke ks).run

---- From an order to every run

entries_fit : (z : Dimensions) → SizesInRange z → z.entries ≤ most_entries
entries_fit z q =
    let p = and_parts (leb 1 z.cells && leb z.cells most_cells) ((leb 1 z.crews && leb z.crews most_crews) && (leb 1 z.entries && leb z.entries most_entries)) q in
    let e = and_parts (leb 1 z.crews && leb z.crews most_crews) (leb 1 z.entries && leb z.entries most_entries) p.1 in
    leb-true z.entries most_entries (and_parts (leb 1 z.entries) (leb z.entries most_entries) e.1).1

module _ {V : Type 0} (d : V) (s : Register V) (j : JustStarted s.head s.tables) where
  at_first : (f₀ : Meaning) → Abreast d s (fresh_view (cell_values d s) (own_of d s)) f₀ s f₀
  at_first f₀ = record { tie = start_tie d s j; same_sizes = refl; means = refl }

  abbrev AcceptedBy : Meaning → History V → RegisterView V → Meaning → Type 0
  AcceptedBy f₀ run view g = RunWith f₀ (sizes_of s) (cell_values d s) (own_of d s) run view g

  -- along what the view accepts, every call of the register is accepted
  abreast : (f₀ : Meaning) {log : List (Step V)} {r : Register V} {f : Meaning} → Performed d s f₀ log r f →
      {run : History V} {view : RegisterView V} {g : Meaning} → Alike run (events_of (made_by log)) → AcceptedBy f₀ run view g → AllAccepted log × Abreast d s view g r f
  abreast f₀ Performed.starts none RunWith.starts = (tt, at_first f₀)
  abreast f₀ (Performed.then {r = r} {f = f} {k = k} {a = a} {r' = r'} {f' = f'} pf p) (more m al) (RunWith.goes_on {s = view} {f = g} sv now) =
      let ih = abreast f₀ pf al sv in
      let q = performed d s view g r f ih.1 k a r' f' m now p in
      ((q.0, ih.0), q.1)

  -- where the view accepts a list, it accepts each older part of it
  older : (f₀ : Meaning) {ks js : List (Call V)} → Extends ks js → {run : History V} {view : RegisterView V} {g : Meaning} → Alike run (events_of ks) → AcceptedBy f₀ run view g →
      (run' : History V) × (view' : RegisterView V) × (g' : Meaning) × Alike run' (events_of js) × AcceptedBy f₀ run' view' g'
  older f₀ here {run = run} {view = view} {g = g} al sv = (run, view, g, al, sv)
  older f₀ (later t) (more m al) (RunWith.goes_on sv now) = older f₀ t al sv

  book_under_top : s.head.sizes.entries + 2 ≤ top
  book_under_top = let t : most_entries + 2 ≤ top = lit≤ tt in omega (arith, t, entries_fit s.head.sizes j.sizes_in_range)

  -- where every run accepts every call, one does
  pub some_from_every : (ks : List (Call V)) (f : Meaning) → KeepsLaw f → EveryRunAccepts d s f ks → SomeRunAccepts d s f ks
  some_from_every ks f ke every =
      let g = every_list_can_be_performed V d s f j ke ks in
      (g, every g.log g.register g.meaning g.performed (subst (λ (x : List (Call V)). Extends x (made_by g.log)) g.whole here))

  module _ (ks : List (Call V)) (well : WellMadeCalls s.head.sizes ks) where
    by_positions : (order : List ℕ) → IsOrderOf ks order → EveryRunAccepts d s (script_meaning (script_by order ks)) ks
    by_positions order l log r f g since =
        let a = positions_script (sizes_of s) (cell_values d s) (own_of d s) (events_of ks) book_under_top well order l in
        let o = older (script_meaning (script_by order ks)) since (subst (λ (x : Calls V). Alike a.run x) a.same_calls (calls_alike a.run)) a.run_with in
        (abreast (script_meaning (script_by order ks)) g o.3 o.4).0

    order_from_some : (f : Meaning) → KeepsLaw f → SomeRunAccepts d s f ks → HasSerializationOrder ks
    order_from_some f ke (g, ok) = subst HasSerializationOrder g.whole (accepted_calls_have_order V d s f j ke g.log g.register g.meaning (performed_run d s f g.performed) ok)

    every_from_order : HasSerializationOrder ks → (numbers : List ℕ) × EveryRunAccepts d s (script_meaning numbers) ks
    every_from_order l = (script_by l.0 ks, by_positions l.0 l.1)

    is_permissive : IsPermissive d s ks
    is_permissive = record {
      some_run = (
        (λ l. let m = every_from_order l in (m.0, some_from_every ks (script_meaning m.0) (script_lawful m.0) m.1)),
        (λ c. order_from_some (script_meaning c.0) (script_lawful c.0) c.1),
      );
      every_run = (
        every_from_order,
        (λ c. order_from_some (script_meaning c.0) (script_lawful c.0) (some_from_every ks (script_meaning c.0) (script_lawful c.0) c.1)),
      );
      by_position = by_positions;
      with_any_chooser = order_from_some;
    }

pub register_is_permissive : (V : Type 0) → RegisterIsPermissive V
register_is_permissive V d s j ks well = is_permissive d s j ks well
