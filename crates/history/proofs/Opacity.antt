-- Bounds that move as they should agree with the history at every moment, so that a run is opaque.
use Rattle.std.proofs.Common.{ℕ, suc, ◌≤◌, cond, List, [], ◌∷◌, arith}
use Rattle.std.proofs.lemmas.Option.{none-some}
use Rattle.history.specs.Events.{Operation, History, is_opening, openings, open_job, by_jobs}
use Rattle.history.specs.Events.Event.{by}
use Rattle.history.specs.Projections.{WellFormed}
use Rattle.history.specs.Values.{ReadsCurrent}
use Rattle.history.specs.Precedence.{Extends, Precedes, SerializationOrder}
use Rattle.history.specs.Precedence.Extends.{here, later}
use Rattle.history.specs.Precedence.Precedes.{real_time, committed_read, read_committed, committed_committed}
use Rattle.history.specs.SerialExecution.{SeriallyExplained, Opaque}
use Rattle.history.specs.WellMade.{WellMade}
use Rattle.history.specs.Bounds.{Bounds, Tracked, bounds_by_job, CrewRun}
use Rattle.history.proofs.Moments.{well_formed_tail}
use Rattle.history.proofs.Ordering.{places_give_order}
use Rattle.history.proofs.JobBounds.{BoundsRun}
use Rattle.history.proofs.JobBounds.BoundsRun.{starts, goes_on}
use Rattle.history.proofs.Tracking.{tracked_step}
use Rattle.history.proofs.Crews.{well_made_tail, well_formed}
use Rattle.history.proofs.Moving.{moves}

extends_nothing : {A : Type 0} {a : A} {g : List A} → Extends [] (a ∷ g) → ⊥
extends_nothing s = elim s [ ]

nothing_precedes : {V : Type 0} {x y : ℕ} → Precedes {V = V} {R = V} {P = ℕ} [] x y → ⊥
nothing_precedes (real_time s e) = extends_nothing s
nothing_precedes (committed_read s n e) = extends_nothing s
nothing_precedes (read_committed s n e) = extends_nothing s
nothing_precedes (committed_committed s n e) = extends_nothing s

pub tracked : {V : Type 0} (top : ℕ) {h : History V} {b : Bounds} → 2 ≤ top → WellFormed h → BoundsRun top h b → Tracked h b
tracked top t wf starts = record {
  placed = record { apart = λ x y ne k. absurd (nothing_precedes k); room = λ x e. omega arith };
  below_highest = λ x p e. absurd (none-some p e);
  below_written = λ x c p k e. absurd (none-some p e);
  below_read = λ x c p k e. absurd (none-some p e);
}
tracked top t wf (goes_on {h = h} {b = b} {x = x} {o = d} {b' = b'} r m) = tracked_step h b x d b' wf (tracked top t (well_formed_tail (by x d) h wf) r) m

pub bounds_run : {V : Type 0} (top : ℕ) {run : History V} {b : Bounds} → CrewRun top run b → 2 ≤ top → WellMade run → BoundsRun top (by_jobs run) (bounds_by_job top run b)
bounds_run top (CrewRun.starts l u) t wm = BoundsRun.starts
bounds_run top (CrewRun.goes_on {run = run} {b = b} {w = w} {o = d} {b' = b'} r m) t wm = BoundsRun.goes_on (bounds_run top r t (well_made_tail (by w d) run wm)) (moves top run b w b' d t wm m)

pub bounds_agree : {V : Type 0} (top : ℕ) (run : History V) (b : Bounds) → 2 ≤ top → WellMade run → CrewRun top run b → Tracked (by_jobs run) (bounds_by_job top run b)
bounds_agree top run b t wm r = tracked top t (well_formed run wm) (bounds_run top r t wm)

pub bounds_explained : {V : Type 0} (first : ℕ → V) (top : ℕ) (run : History V) (b : Bounds) → 2 ≤ top → WellMade run → ReadsCurrent first (by_jobs run) → CrewRun top run b →
    (row : List ℕ) × SerializationOrder (by_jobs run) row × SeriallyExplained first (by_jobs run) row
bounds_explained first top run b t wm rc r =
    let wf = well_formed run wm in
    let c = bounds_by_job top run b in
    let o = places_give_order first (by_jobs run) c.low c.high wf rc (bounds_agree top run b t wm r).placed in
    (o.0, o.1, o.3)

---- Each moment of a run is such a run

crew_run_moment : {V : Type 0} (top : ℕ) {run moment : History V} {b : Bounds} → Extends run moment → CrewRun top run b → (b' : Bounds) × CrewRun top moment b'
crew_run_moment top {b = b} here r = (b, r)
crew_run_moment top (later e) (CrewRun.goes_on r m) = crew_run_moment top e r

well_made_moment : {V : Type 0} {run moment : History V} → Extends run moment → WellMade run → WellMade moment
well_made_moment here wm = wm
well_made_moment (later {a = a} {h = h} e) wm = well_made_moment e (well_made_tail a h wm)

reads_current_tail : {V : Type 0} (first : ℕ → V) (x : ℕ) (o : Operation V V ℕ) (h : History V) → ReadsCurrent first (by x o ∷ h) → ReadsCurrent first h
reads_current_tail first x o h rc = grind (arith, rc)

reads_current_moment : {V : Type 0} (first : ℕ → V) {run moment : History V} → Extends run moment → ReadsCurrent first (by_jobs run) → ReadsCurrent first (by_jobs moment)
reads_current_moment first here rc = rc
reads_current_moment first (later {a = by w o} {h = h} e) rc = reads_current_moment first e (reads_current_tail first (cond (is_opening o) (suc (openings h)) (open_job h w)) o (by_jobs h) rc)

pub bounds_opaque : {V : Type 0} (first : ℕ → V) (top : ℕ) (run : History V) (b : Bounds) → 2 ≤ top → WellMade run → ReadsCurrent first (by_jobs run) → CrewRun top run b → Opaque first run
bounds_opaque first top run b t wm rc r moment e =
    let k = crew_run_moment top e r in
    bounds_explained first top moment k.0 t (well_made_moment e wm) (reads_current_moment first e rc) k.1
