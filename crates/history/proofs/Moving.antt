-- A call moves the bounds of jobs as it moves those of crews.
use Rattle.std.proofs.Common.{◌≡◌, ℕ, suc, ◌+◌, ◌<◌, ◌≤◌, Bool, true, false, cond, eqb, List, ◌∷◌, Some, None, sym, refl, ap, ◌∙◌, subst, arith}
use Rattle.std.proofs.lemmas.Bool.{eqb-true, eqb-false, eq-eqb, ne_eqb}
use Rattle.std.proofs.lemmas.Option.{none-some}
use Rattle.history.specs.Events.{Operation, History, is_opening, ends_at, openings, open_job, by_jobs, crew_of}
use Rattle.history.specs.Events.Operation.{opens, reads, writes, commits, abandons}
use Rattle.history.specs.Events.Event.{by}
use Rattle.history.specs.Projections.{projection, is_active, end_place}
use Rattle.history.specs.Precedence.{ReadGlobally}
use Rattle.history.specs.WellMade.{WellMade}
use Rattle.history.specs.Bounds.{Bounds, bounds_by_job, Narrows, OwnBounds, CrewMoves}
use Rattle.history.proofs.Moments.{active_unplaced, unopened_projection}
use Rattle.history.proofs.JobBounds.{ClosesIn, SeesTo, Moves}
use Rattle.history.proofs.Tracking.{reader_active}
use Rattle.history.proofs.Crews.{openings_by_job, open_job_active, well_formed, crew_of_open_job, active_positive, active_has_crew}

module _ {V : Type 0} (top : ℕ) (run : History V) (b : Bounds) (w : ℕ) (b' : Bounds) where
  abbrev steps : ℕ → List (Operation V V ℕ)
  steps z = projection (by_jobs run) z

  -- the bounds of job z close in, where its steps are `now` and its crew is u
  abbrev Closes : ℕ → ℕ → List (Operation V V ℕ) → Type 0
  Closes z u now = ClosesIn (end_place (steps z)) (cond (is_active (steps z)) (b.low (crew_of run z)) 0) (cond (is_active (steps z)) (b.high (crew_of run z)) top)
      (end_place now) (cond (is_active now) (b'.low u) 0) (cond (is_active now) (b'.high u) top)

  abbrev HasRoom : ℕ → List (Operation V V ℕ) → Type 0
  HasRoom u now = cond (is_active now) (b'.low u) 0 + 2 ≤ cond (is_active now) (b'.high u) top

  abbrev OthersNarrow : Type 0
  OthersNarrow = (u : ℕ) → (u ≡ w → ⊥) → 1 ≤ open_job run u → Narrows b u b'

  ---- A job that goes on

  closes_on : (v : ℕ) (s : List (Operation V V ℕ)) (k : Bool) → (k ≡ true → Narrows b v b') →
      ClosesIn (end_place s) (cond k (b.low v) 0) (cond k (b.high v) top) (end_place s) (cond k (b'.low v) 0) (cond k (b'.high v) top)
  closes_on v s k f = grind (arith, f)

  room_on : (v : ℕ) (k : Bool) → 2 ≤ top → (k ≡ true → Narrows b v b') → cond k (b'.low v) 0 + 2 ≤ cond k (b'.high v) top
  room_on v k t f = grind (arith, t, f)

  goes_on_at : (z : ℕ) (now : List (Operation V V ℕ)) → end_place now ≡ end_place (steps z) → is_active now ≡ is_active (steps z) → 2 ≤ top →
      (is_active (steps z) ≡ true → Narrows b (crew_of run z) b') → Closes z (crew_of run z) now × HasRoom (crew_of run z) now
  goes_on_at z now e a t f = (rw (e, a) (closes_on (crew_of run z) (steps z) (is_active (steps z)) f), rw a (room_on (crew_of run z) (is_active (steps z)) t f))

  -- an open job of another number is another crew's
  other_crew : WellMade run → (z : ℕ) → (open_job run w ≡ z → ⊥) → is_active (steps z) ≡ true → (crew_of run z ≡ w → ⊥) × (1 ≤ open_job run (crew_of run z))
  other_crew wm z n o = ((λ e. n (sym (ap (open_job run) e) ∙ active_has_crew run wm z o)), rw (active_has_crew run wm z o) (active_positive run wm z o))

  other_narrows : WellMade run → OthersNarrow → (z : ℕ) → (open_job run w ≡ z → ⊥) → is_active (steps z) ≡ true → Narrows b (crew_of run z) b'
  other_narrows wm others z n o = let k = other_crew wm z n o in others (crew_of run z) k.0 k.1

  ---- A call within a job: it neither opens nor ends it

  moves_within : (o : Operation V V ℕ) → ((s : List (Operation V V ℕ)) → end_place (o ∷ s) ≡ end_place s) → ((s : List (Operation V V ℕ)) → is_active (o ∷ s) ≡ is_active s) →
      2 ≤ top → WellMade run → 1 ≤ open_job run w → Narrows b w b' → OthersNarrow →
      (z : ℕ) → Closes z (crew_of run z) (cond (eqb (open_job run w) z) (o ∷ steps z) (steps z)) × HasRoom (crew_of run z) (cond (eqb (open_job run w) z) (o ∷ steps z) (steps z))
  moves_within o e a t wm j own others z = go (eqb (open_job run w) z) refl
    where
      go : (k : Bool) → eqb (open_job run w) z ≡ k → Closes z (crew_of run z) (cond k (o ∷ steps z) (steps z)) × HasRoom (crew_of run z) (cond k (o ∷ steps z) (steps z))
      go true q = goes_on_at z (o ∷ steps z) (e (steps z)) (a (steps z)) t (λ _. rw (← eqb-true (open_job run w) z q, crew_of_open_job run w j) own)
      go false q = goes_on_at z (steps z) refl refl t (other_narrows wm others z (eqb-false (open_job run w) z q))

  ---- An ending

  ends_between : (s : List (Operation V V ℕ)) (p v l' u' : ℕ) → end_place s ≡ None → is_active s ≡ true → b.low v < p → p < b.high v →
      ClosesIn (end_place s) (cond (is_active s) (b.low v) 0) (cond (is_active s) (b.high v) top) (Some p) l' u'
  ends_between s p v l' u' e o x y = rw (e, o) (x, y)

  moves_ending : (o : Operation V V ℕ) (p : ℕ) → ((s : List (Operation V V ℕ)) → end_place (o ∷ s) ≡ Some p) → ((s : List (Operation V V ℕ)) → is_active (o ∷ s) ≡ false) →
      2 ≤ top → WellMade run → 1 ≤ open_job run w → b.low w < p → p < b.high w → OthersNarrow →
      (z : ℕ) → Closes z (crew_of run z) (cond (eqb (open_job run w) z) (o ∷ steps z) (steps z)) × HasRoom (crew_of run z) (cond (eqb (open_job run w) z) (o ∷ steps z) (steps z))
  moves_ending o p e a t wm j above below others z = go (eqb (open_job run w) z) refl
    where
      own : Closes (open_job run w) (crew_of run (open_job run w)) (o ∷ steps (open_job run w))
      own =
          rw (e (steps (open_job run w)))
          (ends_between (steps (open_job run w)) p (crew_of run (open_job run w)) _ _ (active_unplaced (by_jobs run) (well_formed run wm) (open_job run w) (open_job_active run w j)) (open_job_active run w j) (rw (crew_of_open_job run w j) above) (rw (crew_of_open_job run w j) below))

      go : (k : Bool) → eqb (open_job run w) z ≡ k → Closes z (crew_of run z) (cond k (o ∷ steps z) (steps z)) × HasRoom (crew_of run z) (cond k (o ∷ steps z) (steps z))
      go true q = (subst (λ y. Closes y (crew_of run y) (o ∷ steps y)) (eqb-true (open_job run w) z q) own, rw (a (steps z)) (omega arith))
      go false q = goes_on_at z (steps z) refl refl t (other_narrows wm others z (eqb-false (open_job run w) z q))

  ---- An opening

  moves_opening : 2 ≤ top → WellMade (by w opens ∷ run) → OwnBounds top run b w opens b' → OthersNarrow →
      (z : ℕ) (k : Bool) → eqb (suc (openings run)) z ≡ k →
      Closes z (cond k w (crew_of run z)) (cond k (opens ∷ steps z) (steps z)) × HasRoom (cond k w (crew_of run z)) (cond k (opens ∷ steps z) (steps z))
  moves_opening t wm own others z true e =
      (rw (unopened_projection (by_jobs run) (well_formed run wm.1) z (omega (arith, eqb-true (suc (openings run)) z e, openings_by_job run))) (omega arith, own.1), own.2)
  moves_opening t wm own others z false e = goes_on_at z (steps z) refl refl t (λ o. other_narrows wm.1 others z (λ q. omega (arith, wm.0, active_positive run wm.1 z o)) o)

  ---- Any call

  abbrev acting : Operation V V ℕ → ℕ
  acting o = cond (is_opening o) (suc (openings run)) (open_job run w)

  abbrev MovesJob : Operation V V ℕ → Type 0
  MovesJob o = Moves (by_jobs run) (bounds_by_job top run b) (acting o) o (bounds_by_job top (by w o ∷ run) b')

  moves_job : (o : Operation V V ℕ) → CrewMoves top run b w o b' → ((p : ℕ) → ends_at o ≡ Some p → (p ≤ b'.highest) × ((c : ℕ) → ReadGlobally (by_jobs run) (acting o) c → p ≤ b'.read c)) →
      ((z : ℕ) → Closes z (crew_of (by w o ∷ run) z) (projection (by_jobs (by w o ∷ run)) z) × HasRoom (crew_of (by w o ∷ run) z) (projection (by_jobs (by w o ∷ run)) z)) →
      SeesTo (by_jobs run) (bounds_by_job top run b) (acting o) o (bounds_by_job top (by w o ∷ run) b') → MovesJob o
  moves_job o cm ends k sees = record {
    closes_in = λ z. (k z).0;
    room = λ z _. (k z).1;
    highest_up = cm.highest_up;
    written_up = cm.written_up;
    read_up = cm.read_up;
    ends = ends;
    sees_to = sees;
  }

  -- the open jobs that have read a cell which a commit writes are kept below its place
  readers_lowered : (p c z : ℕ) → WellMade run → (z ≡ open_job run w → ⊥) → ReadGlobally (by_jobs run) z c → end_place (steps z) ≡ None →
      ((u : ℕ) → (u ≡ w → ⊥) → 1 ≤ open_job run u → ReadGlobally (by_jobs run) (open_job run u) c → b'.high u ≤ p) →
      cond (is_active (cond (eqb (open_job run w) z) (commits p ∷ steps z) (steps z))) (b'.high (crew_of run z)) top ≤ p
  readers_lowered p c z wm n r e f =
      let o = reader_active (by_jobs run) (well_formed run wm) z c r e in
      let q = other_crew wm z (λ k. n (sym k)) o in
      rw (ne_eqb (open_job run w) z (λ k. n (sym k)), o) (f (crew_of run z) q.0 q.1 (rw (active_has_crew run wm z o) r))

  pub moves : (o : Operation V V ℕ) → 2 ≤ top → WellMade (by w o ∷ run) → CrewMoves top run b w o b' → MovesJob o
  moves opens t wm cm =
      moves_job opens cm (λ p e. absurd (none-some p e)) (λ z. moves_opening t wm cm.own cm.others z (eqb (suc (openings run)) z) refl)
      (rw (eq-eqb (suc (openings run)) (suc (openings run)) refl) cm.own.0)
  moves (reads c v) t wm cm =
      moves_job (reads c v) cm cm.ends (moves_within (reads c v) (λ s. refl) (λ s. refl) t wm.1 wm.0 cm.own.0 cm.others)
      (λ n. rw (eq-eqb (open_job run w) (open_job run w) refl, open_job_active run w wm.0, crew_of_open_job run w wm.0) (cm.own.1 n))
  moves (writes c v) t wm cm = moves_job (writes c v) cm cm.ends (moves_within (writes c v) (λ s. refl) (λ s. refl) t wm.1 wm.0 cm.own cm.others) tt
  moves (commits p) t wm cm =
      moves_job (commits p) cm cm.ends (moves_ending (commits p) p (λ s. refl) (λ s. refl) t wm.1 wm.0 cm.own.0 cm.own.1 cm.others)
      (λ c wr. let m = cm.own.2 c wr in (m.0, m.1, m.2, λ z n r e. readers_lowered p c z wm.1 n r e m.3))
  moves (abandons p) t wm cm = moves_job (abandons p) cm cm.ends (moves_ending (abandons p) p (λ s. refl) (λ s. refl) t wm.1 wm.0 cm.own.0 cm.own.1 cm.others) tt
