-- The day book's order explains what the ended jobs were told, and with the open jobs sorted in it explains what all were told.
use Rattle.std.proofs.Common.{◌≡◌, ℕ, zero, suc, ◌≤◌, true, false, cond, leb, List, [], ◌∷◌, ◌++◌, is_some, Option, sym, refl, ap, ◌∙◌, arith, lit≤}
use Rattle.std.proofs.Math.Logic.{⊎_elim}
use Rattle.std.proofs.lemmas.Bool.{both_ways, cases_Bool, cond_both}
use Rattle.terms.specs.declared.records.Entry.{Entry}
use Rattle.choosers.specs.Meaning.{KeepsLaw, Meaning}
use Rattle.history.specs.Bounds.{Bounds, Placed, Tracked, bounds_by_job, sort_key, sort_key_at}
use Rattle.history.specs.Events.{History, by_jobs, openings}
use Rattle.history.specs.Events.Event.{by}
use Rattle.history.specs.Events.Operation.{opens}
use Rattle.history.specs.Precedence.{Ended, Extends, In, Occurs, Precedes, Respects, SerializationOrder, StandsBefore}
use Rattle.history.specs.Precedence.Extends.{here, later}
use Rattle.history.specs.Projections.{WellFormed, end_place, is_committed, projection}
use Rattle.history.specs.SerialExecution.{SeriallyExplained, execute_serially}
use Rattle.history.specs.Values.{ReadsCurrent}
use Rattle.history.specs.Views.{bounds_of}
use Rattle.history.specs.WellMade.{WellMade}
use Rattle.history.proofs.Crews.{openings_tail, well_formed}
use Rattle.history.proofs.Moments.{committed_ends, numbered, well_formed_tail}
use Rattle.history.proofs.Opacity.{bounds_run, tracked}
use Rattle.history.proofs.Ordering.{Sorted, ascending_is_order, fill, fill_cases, fill_distinct, fill_in, fill_keeps, fill_sorted, insert, keys_ascend, order_respects, sorted_ascending, stands_by_key}
use Rattle.history.proofs.Rows.{Distinct, distinct_once, in_later, in_nil, in_one}
use Rattle.history.proofs.Serially.{respectful_orders_explain}
use Rattle.history.proofs.Tracking.{ended_place}
use Rattle.history.proofs.Viewing.{crew_run}
use Rattle.rules.specs.Limits.{top}
use Rattle.rules.specs.Making.{JustStarted}
use Rattle.rules.specs.Performing.{All, Ascending, NotAbove}
use Rattle.rules.specs.Registers.{Register, own_of}
use Rattle.rules.specs.Runs.{Run, Step}
use Rattle.rules.specs.Tables.{row}
use Rattle.guarantee.specs.Histories.{Numbered, history_of}
use Rattle.guarantee.specs.Opacity.{DayBookExplains, EveryMomentIsOpaque, EveryRunIsOpaque, Names, OrderExplains, cell_values, day_book, ended_part, has_ended, order_of}
use Rattle.guarantee.proofs.Booked.{only_ended}
use Rattle.guarantee.proofs.Invariant.{Inv, at_start, facts_of, performed}
use Rattle.guarantee.proofs.Orders.{in_either}

---- Rows in ascending keys

module _ (k : ℕ → ℕ) where
  sorted_last : (x : ℕ) (a : List ℕ) → Sorted k a → ((y : ℕ) → In y a → k x ≤ k y) → Sorted k (a ++ (x ∷ []))
  sorted_last x [] so f = ((λ z i. absurd (in_nil z i)), tt)
  sorted_last x (y ∷ a) so f = ((λ z i. ⊎_elim (so.0 z) (λ j. rw (in_one z x j) (f y (a, here))) (in_either z a (x ∷ []) i)), sorted_last x a so.1 (λ z i. f z (in_later z y a i)))

---- The ended part

module _ {V : Type 0} (h : History V) (k : ℕ → ℕ) where
  ended_insert : (x : ℕ) → has_ended h x ≡ false → (r : List ℕ) → ended_part h (insert k x r) ≡ ended_part h r
  ended_insert x e [] = rw e
  ended_insert x e (y ∷ r) = cond_both (leb (k y) (k x)) _ _ (λ (q : List ℕ). ended_part h q ≡ ended_part h (y ∷ r)) (λ _. rw e refl) (λ _. ap (λ (q : List ℕ). cond (has_ended h y) (y ∷ q) q) (ended_insert x e r))

  ended_fill : (n : ℕ) (row : List ℕ) → ended_part h (fill k (has_ended h) n row) ≡ ended_part h row
  ended_fill zero row = refl
  ended_fill (suc n) row = let ih = ended_fill n row in cond_both (has_ended h (suc n)) _ _ (λ (q : List ℕ). ended_part h q ≡ ended_part h row) (λ _. ih) (λ e. ended_insert (suc n) e (fill k (has_ended h) n row) ∙ ih)

  ended_whole : (row : List ℕ) → ((x : ℕ) → In x row → has_ended h x ≡ true) → ended_part h row ≡ row
  ended_whole [] f = refl
  ended_whole (x ∷ r) f = rw (f x (r, here)) (ap (λ (q : List ℕ). x ∷ q) (ended_whole r (λ y i. f y (in_later y x r i))))

---- Ended jobs

module _ {V : Type 0} where
  ended_numbered : (h : History V) → WellFormed h → (x : ℕ) → has_ended h x ≡ true → (1 ≤ x) × (x ≤ openings h)
  ended_numbered h pr x q = numbered h pr x (λ e. both_ways (has_ended h x) (ap (λ s. is_some (end_place s)) e) q)

  well_formed_since : {h g : History V} → Extends h g → WellFormed h → WellFormed g
  well_formed_since here pr = pr
  well_formed_since (later {a = a} {h = h} s) pr = well_formed_since s (well_formed_tail a h pr)

  openings_until : {h g : History V} → Extends h g → openings g ≤ openings h
  openings_until here = omega arith
  openings_until (later {a = by w o} {h = h} s) = let l = openings_until s in let m = openings_tail w o h in omega arith

---- At every moment

module _ {V : Type 0} (d : V) (s : Register V) (run : History V) (r : Register V) (f : Meaning) (inv : Inv d s run r f) where
  wm : WellMade run
  wm = (facts_of inv).well_made

  pr : WellFormed (by_jobs run)
  pr = well_formed run wm

  tr : ReadsCurrent (cell_values d s) (by_jobs run)
  tr = (facts_of inv).reads_current

  abbrev pub b : Bounds
  b = bounds_by_job top run (bounds_of inv.view)

  pub tracking : Tracked (by_jobs run) b
  tracking = tracked top (lit≤ tt) pr (bounds_run top (crew_run top r.head.sizes.cells (cell_values d s) (own_of d s) inv.went) (lit≤ tt) wm)

  pl : Placed (by_jobs run) b.low b.high
  pl = tracking.placed

  abbrev k : ℕ → ℕ
  k = sort_key (by_jobs run) b.low

  key_place : (e : Entry) → Names run e → k e.job.0 ≡ e.place.0
  key_place e n = ap (λ (o : Option ℕ). sort_key_at o (b.low e.job.0)) n.place_is

  above_row : (e : Entry) (es : List Entry) → Names run e → All (NotAbove e) es → All (Names run) es → (y : ℕ) → In y (order_of es) → k e.job.0 ≤ k y
  above_row e [] n a ns y i = absurd (in_nil y i)
  above_row e (g ∷ es) n a ns y i = ⊎_elim (above_row e es n a.1 ns.1 y) (λ j. rw (in_one y g.job.0 j, key_place e n, key_place g ns.0) a.0) (in_either y (order_of es) (g.job.0 ∷ []) i)

  book_sorted : (es : List Entry) → Ascending es → All (Names run) es → Sorted k (order_of es)
  book_sorted [] c ns = tt
  book_sorted (e ∷ es) c ns = sorted_last k e.job.0 (order_of es) (book_sorted es c.1 ns.1) (above_row e es ns.0 c.0 ns.1)

  respects_by_key : (row : List ℕ) → Sorted k row → Distinct row → ((x : ℕ) → is_committed (projection (by_jobs run) x) ≡ true → In x row) → Respects (by_jobs run) row
  respects_by_key row so di all =
      record { once = λ x p. distinct_once x p.1 di p.2; all_committed = all; rules = λ x y i j ne q. stands_by_key k row (sorted_ascending k row so) x y i j ne (keys_ascend (by_jobs run) b.low b.high pl x y ne q) }

  abbrev B : List ℕ
  B = order_of (day_book r)

  b_sorted : Sorted k B
  b_sorted = book_sorted (day_book r) inv.booked.ascends inv.booked.entries

  b_only : (x : ℕ) → In x B → has_ended (by_jobs run) x ≡ true
  b_only = only_ended run (day_book r) inv.booked.entries

  b_respects : Respects (by_jobs run) B
  b_respects = respects_by_key B b_sorted inv.booked.distinct (λ x e. inv.booked.all x (committed_ends (projection (by_jobs run) x) e))

  b_done : SeriallyExplained (cell_values d s) (by_jobs run) B
  b_done = respectful_orders_explain (cell_values d s) (by_jobs run) B pr tr b_respects

  -- the cells have the values that an order leaves where it explains
  held : (order : List ℕ) → SeriallyExplained (cell_values d s) (by_jobs run) order → (c : ℕ) → 1 ≤ c → c ≤ r.head.sizes.cells →
      execute_serially (projection (by_jobs run)) (cell_values d s) order c ≡ cell_values d r c
  held order done c a z = done.same_left c ∙ (sym ((facts_of inv).view_facts.value_is c) ∙ sym (inv.tie.value_is c a z))

  -- all jobs: the day book's order with the open jobs sorted in at low + 1
  abbrev whole : List ℕ
  whole = fill k (has_ended (by_jobs run)) (openings (by_jobs run)) B

  w_sorted : Sorted k whole
  w_sorted = fill_sorted k (has_ended (by_jobs run)) (openings (by_jobs run)) B b_sorted

  w_distinct : Distinct whole
  w_distinct = fill_distinct k (has_ended (by_jobs run)) (openings (by_jobs run)) B b_only inv.booked.distinct

  w_all : (x : ℕ) → 1 ≤ x → x ≤ openings (by_jobs run) → In x whole
  w_all x a l = ⊎_elim (λ e. fill_keeps k (has_ended (by_jobs run)) (openings (by_jobs run)) x B (inv.booked.all x e)) (fill_in k (has_ended (by_jobs run)) (openings (by_jobs run)) x B a l) (cases_Bool (has_ended (by_jobs run) x))

  w_only : (x : ℕ) → In x whole → (1 ≤ x) × (x ≤ openings (by_jobs run))
  w_only x i = ⊎_elim (λ j. ended_numbered (by_jobs run) pr x (b_only x j)) (λ q. (q.0, q.1)) (fill_cases k (has_ended (by_jobs run)) (openings (by_jobs run)) x B i)

  w_order : SerializationOrder (by_jobs run) whole
  w_order = ascending_is_order (by_jobs run) b.low b.high pl whole (λ x p. distinct_once x p.1 w_distinct p.2) w_all w_only (sorted_ascending k whole w_sorted)

  w_done : SeriallyExplained (cell_values d s) (by_jobs run) whole
  w_done = respectful_orders_explain (cell_values d s) (by_jobs run) whole pr tr (order_respects (by_jobs run) whole pr w_order)

  w_ended : ended_part (by_jobs run) whole ≡ B
  w_ended = ended_fill (by_jobs run) k (openings (by_jobs run)) B ∙ ended_whole (by_jobs run) k B b_only

  real_time : (x y : ℕ) (g : History V) → Occurs (by_jobs run) y opens g → Ended g x → StandsBefore whole x y
  real_time x y g did en =
      let pg = well_formed_since did pr in
      let e = ended_place g x en in
      let n = ended_numbered g pg.1 x (ap is_some e.1) in
      let o = openings_until did in
      w_order.rules x y (w_all x n.0 (omega (arith, n.1))) (w_all y (omega (arith, pg.0)) (omega (arith, pg.0))) (λ q. omega (arith, pg.0, n.1)) (Precedes.real_time did en)

day_book_explains : {V : Type 0} (d : V) (s : Register V) (log : List (Step V)) (r : Register V) (f : Meaning) → Inv d s (history_of log) r f → Numbered log → DayBookExplains d s log r
day_book_explains d s log r f inv numbered = record {
  once = λ x p. distinct_once x p.1 inv.booked.distinct p.2;
  all_ended = inv.booked.all;
  only_ended = b_only d s (history_of log) r f inv;
  numbers_true = numbered;
  entries_true = inv.booked.entries;
  places_ascend = inv.booked.ascends;
  keeps_precedence = b_respects d s (history_of log) r f inv;
  explains = record { told_the_same = (b_done d s (history_of log) r f inv).same_observed; left_the_same = held d s (history_of log) r f inv (order_of (day_book r)) (b_done d s (history_of log) r f inv) };
}

order_explains : {V : Type 0} (d : V) (s : Register V) (log : List (Step V)) (r : Register V) (f : Meaning) → Inv d s (history_of log) r f → (order : List ℕ) × OrderExplains d s log r order
order_explains d s log r f inv = (
  whole d s (history_of log) r f inv,
  record {
    serialization_order = w_order d s (history_of log) r f inv;
    day_book_order = w_ended d s (history_of log) r f inv;
    real_time = real_time d s (history_of log) r f inv;
    explains = record {
      told_the_same = (w_done d s (history_of log) r f inv).same_observed;
      left_the_same = held d s (history_of log) r f inv (whole d s (history_of log) r f inv) (w_done d s (history_of log) r f inv);
    };
  },
)

pub invariant : {V : Type 0} (d : V) (s : Register V) (f₀ : Meaning) → JustStarted s.head s.tables → KeepsLaw f₀ →
    {log : List (Step V)} {r : Register V} {f : Meaning} → Run d s f₀ log r f → Inv d s (history_of log) r f × Numbered log
invariant d s f₀ j k Run.starts = (at_start d s f₀ j k, tt)
invariant d s f₀ j k (Run.then {log = log} {r = r} {f = f} {k = call} {a = a} {r' = r'} {f' = f'} rn p) =
    let ih = invariant d s f₀ j k rn in
    let g = performed d s (history_of log) r f ih.0 call a r' f' p in
    (g.0, (g.1, ih.1))
invariant d s f₀ j k (Run.passed_over rn) = let ih = invariant d s f₀ j k rn in (ih.0, (tt, ih.1))

pub every_run_is_opaque : (V : Type 0) → EveryRunIsOpaque V
every_run_is_opaque V d s f₀ j k log r f rn = let g = invariant d s f₀ j k rn in (day_book_explains d s log r f g.0 g.1, order_explains d s log r f g.0)

-- a run stood somewhere after each older part of its calls
run_split : {V : Type 0} (d : V) (s : Register V) (f₀ : Meaning) (newer older : List (Step V)) {r : Register V} {f : Meaning} → Run d s f₀ (newer ++ older) r f →
    (q : Register V) × (g : Meaning) × Run d s f₀ older q g × Run d q g newer r f
run_split d s f₀ [] older {r = r} {f = f} rn = (r, f, rn, Run.starts)
run_split d s f₀ (step ∷ newer) older (Run.then rn p) = let ih = run_split d s f₀ newer older rn in (ih.0, ih.1, ih.2, Run.then ih.3 p)
run_split d s f₀ (step ∷ newer) older (Run.passed_over rn) = let ih = run_split d s f₀ newer older rn in (ih.0, ih.1, ih.2, Run.passed_over ih.3)

pub every_moment_is_opaque : (V : Type 0) → EveryMomentIsOpaque V
every_moment_is_opaque V d s f₀ j k newer older r f rn = let q = run_split d s f₀ newer older rn in (q.0, q.1, q.2, q.3, every_run_is_opaque V d s f₀ j k older q.0 q.1 q.2)
