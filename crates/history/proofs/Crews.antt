-- From crews to jobs: a well-made run of crews is a well-formed history of jobs, and each open job is one crew's.
use Rattle.std.proofs.Common.{◌≡◌, ℕ, zero, suc, ◌≤◌, true, false, cond, [], ◌∷◌, refl, ap, arith}
use Rattle.std.proofs.lemmas.Bool.{eqb-true, eqb-false, both_ways, cond_both}
use Rattle.history.specs.Events.{Operation, Event, Events, History, is_opening, openings, open_job, by_jobs, crew_of}
use Rattle.history.specs.Events.Event.{by}
use Rattle.history.specs.Projections.{projection, is_active, WellFormed}
use Rattle.history.specs.WellMade.{WellMade}
use Rattle.history.proofs.Moments.{projection_zero}

module _ {V R P : Type 0} where
  pub openings_by_job : (run : Events V R P) → openings (by_jobs run) ≡ openings run
  openings_by_job [] = refl
  openings_by_job (by w o ∷ run) = ap (λ n. cond (is_opening o) (suc n) n) (openings_by_job run)

  pub openings_tail : (w : ℕ) (o : Operation V R P) (run : Events V R P) → openings run ≤ openings (by w o ∷ run)
  openings_tail w o run = cond_both (is_opening o) _ _ (λ k. openings run ≤ k) (λ _. omega arith) (λ _. omega arith)

  pub open_job_numbered : (run : Events V R P) (w : ℕ) → open_job run w ≤ openings run
  open_job_numbered [] w = omega arith
  open_job_numbered (by u o ∷ run) w = let ih = open_job_numbered run w in grind arith

module _ {V : Type 0} where
  -- a job is one crew's
  pub one_crew : (run : History V) (w u : ℕ) → 1 ≤ open_job run w → open_job run w ≡ open_job run u → w ≡ u
  one_crew [] w u a e = absurd (omega arith)
  one_crew (by k o ∷ run) w u a e = let ih = one_crew run w u in grind (arith, a, e, ih, open_job_numbered run w, open_job_numbered run u, eqb-true k w, eqb-true k u)

  -- a crew's job is open
  pub open_job_active : (run : History V) (w : ℕ) → 1 ≤ open_job run w → is_active (projection (by_jobs run) (open_job run w)) ≡ true
  open_job_active [] w a = absurd (omega arith)
  open_job_active (by u o ∷ run) w a = let ih = open_job_active run w in grind (arith, a, ih, open_job_numbered run w, one_crew run w u, eqb-false u w)

  pub well_made_tail : (a : Event V V ℕ) (run : History V) → WellMade (a ∷ run) → WellMade run
  well_made_tail (by w o) run wm = wm.1

  pub well_formed : (run : History V) → WellMade run → WellFormed (by_jobs run)
  well_formed [] wm = tt
  well_formed (by w o ∷ run) wm = (grind (arith, wm, openings_by_job run, open_job_active run w), well_formed run wm.1)

  -- the crew of an open job has it
  pub crew_of_open_job : (run : History V) (w : ℕ) → 1 ≤ open_job run w → crew_of run (open_job run w) ≡ w
  crew_of_open_job [] w a = absurd (omega arith)
  crew_of_open_job (by u o ∷ run) w a = let ih = crew_of_open_job run w in grind (arith, a, ih, open_job_numbered run w, eqb-true u w)

  pub active_positive : (run : History V) → WellMade run → (x : ℕ) → is_active (projection (by_jobs run) x) ≡ true → 1 ≤ x
  active_positive run wm zero o = absurd (both_ways (is_active (projection (by_jobs run) 0)) (ap is_active (projection_zero (by_jobs run) (well_formed run wm))) o)
  active_positive run wm (suc x) o = omega arith

  pub active_has_crew : (run : History V) → WellMade run → (x : ℕ) → is_active (projection (by_jobs run) x) ≡ true → open_job run (crew_of run x) ≡ x
  active_has_crew [] wm x o = absurd (both_ways false refl o)
  active_has_crew (by u d ∷ run) wm x o = let ih = active_has_crew run wm.1 x in grind (arith, o, ih, wm.0, active_positive run wm.1 x, eqb-true u (crew_of run x))
