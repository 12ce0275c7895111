-- What a projection says of the history: from a job's own operations to the moments at which they occur.
use Rattle.std.proofs.Common.{◌≡◌, ℕ, zero, suc, ◌<◌, ◌≤◌, Bool, true, false, cond, eqb, ◌⊎◌, List, [], ◌∷◌, is_some, Some, None, sym, refl, ap, ◌∙◌, subst, inl, inr, arith}
use Rattle.std.proofs.Math.Logic.{⊎_elim}
use Rattle.std.proofs.lemmas.Bool.{eqb-true, eq-eqb, both_ways, cases_lt, cond_both, false_from_ne_true}
use Rattle.std.proofs.lemmas.Option.{none-some}
use Rattle.history.specs.Events.{Operation, Event, Events, History, openings}
use Rattle.history.specs.Events.Operation.{opens, reads, writes, commits, abandons}
use Rattle.history.specs.Events.Event.{by}
use Rattle.history.specs.Projections.{projection, buffered, is_committed, is_active, end_place, WellFormed}
use Rattle.history.specs.Precedence.{Extends, Occurs, Wrote, ReadGlobally, CommittedCell, Precedes}
use Rattle.history.specs.Precedence.Extends.{here, later}
use Rattle.history.specs.Precedence.Precedes.{real_time, committed_read, read_committed, committed_committed}
use Rattle.history.proofs.ShortForm.{installs}

pub occurs_here : {V : Type 0} (h : History V) (d : Operation V V ℕ) (y x : ℕ) → y ≡ x → Occurs (by y d ∷ h) x d h
occurs_here h d y x e = subst (λ z. Extends (by y d ∷ h) (by z d ∷ h)) e here

pub precedes_later : {V R P : Type 0} (a : Event V R P) {h : Events V R P} {x y : ℕ} → Precedes h x y → Precedes (a ∷ h) x y
precedes_later a (real_time d e) = real_time (later d) e
precedes_later a (committed_read d n e) = committed_read (later d) n e
precedes_later a (read_committed d w e) = read_committed (later d) w e
precedes_later a (committed_committed d w e) = committed_committed (later d) w e

module _ {V : Type 0} where
  pub wrote_later : (a : Event V V ℕ) {h : History V} {x c : ℕ} → Wrote h x c → Wrote (a ∷ h) x c
  wrote_later a w = record { value = w.value; before = w.before; occurs = later w.occurs }

  pub read_later : (a : Event V V ℕ) {h : History V} {x c : ℕ} → ReadGlobally h x c → ReadGlobally (a ∷ h) x c
  read_later a w = record { value = w.value; before = w.before; occurs = later w.occurs; unwritten = w.unwritten }

  pub committed_later : (a : Event V V ℕ) {h : History V} {x c : ℕ} → CommittedCell h x c → CommittedCell (a ∷ h) x c
  committed_later a w = record { place = w.place; before = w.before; occurs = later w.occurs; wrote = w.wrote }

  -- a buffered value was written
  wrote_step : (y x c : ℕ) (h : History V) (d : Operation V V ℕ) (b : Bool) (v : V) → eqb y x ≡ b → ((w : V) → buffered (projection h x) c ≡ Some w → Wrote h x c) →
      buffered (cond b (d ∷ projection h x) (projection h x)) c ≡ Some v → Wrote (by y d ∷ h) x c
  wrote_step y x c h d false v e ih q = wrote_later (by y d) (ih v q)
  wrote_step y x c h opens true v e ih q = wrote_later (by y opens) (ih v q)
  wrote_step y x c h (reads k w) true v e ih q = wrote_later (by y (reads k w)) (ih v q)
  wrote_step y x c h (writes k w) true v e ih q = go (eqb k c) refl q
    where
      go : (b : Bool) → eqb k c ≡ b → cond b (Some w) (buffered (projection h x) c) ≡ Some v → Wrote (by y (writes k w) ∷ h) x c
      go true f q = record { value = w; before = h; occurs = subst (λ k'. Extends (by y (writes k w) ∷ h) (by x (writes k' w) ∷ h)) (eqb-true k c f) (occurs_here h (writes k w) y x (eqb-true y x e)) }
      go false f q = wrote_later (by y (writes k w)) (ih v q)
  wrote_step y x c h (commits p) true v e ih q = wrote_later (by y (commits p)) (ih v q)
  wrote_step y x c h (abandons p) true v e ih q = wrote_later (by y (abandons p)) (ih v q)

  pub buffered_wrote : (h : History V) (x c : ℕ) (v : V) → buffered (projection h x) c ≡ Some v → Wrote h x c
  buffered_wrote [] x c v q = absurd (none-some v q)
  buffered_wrote (by y d ∷ h) x c v q = wrote_step y x c h d (eqb y x) v refl (buffered_wrote h x c) q

  -- what was written is buffered
  IsBuffered : List (Operation V V ℕ) → ℕ → Type 0
  IsBuffered s c = (w : V) × (buffered s c ≡ Some w)

  buffered_step : (c : ℕ) (d : Operation V V ℕ) (s : List (Operation V V ℕ)) (b : Bool) → IsBuffered s c → IsBuffered (cond b (d ∷ s) s) c
  unfolding IsBuffered
  buffered_step c d s false q = q
  buffered_step c opens s true q = q
  buffered_step c (reads k w) s true q = q
  buffered_step c (writes k w) s true q = cond_both (eqb k c) (Some w) (buffered s c) (λ o. (u : V) × (o ≡ Some u)) (λ _. (w, refl)) (λ _. q)
  buffered_step c (commits p) s true q = q
  buffered_step c (abandons p) s true q = q

  buffered_when_written : (x c : ℕ) (v : V) (g h : History V) → Extends h (by x (writes c v) ∷ g) → IsBuffered (projection h x) c
  unfolding IsBuffered
  buffered_when_written x c v g h here = rw (eq-eqb x x refl, eq-eqb c c refl) (v, refl)
  buffered_when_written x c v g _ (later {a = by y d} {h = h} s) = buffered_step c d (projection h x) (eqb y x) (buffered_when_written x c v g h s)

  pub unbuffered_unwritten : (h : History V) (x c : ℕ) → buffered (projection h x) c ≡ None → Wrote h x c → ⊥
  unfolding IsBuffered
  unbuffered_unwritten h x c q w = let k = buffered_when_written x c w.value w.before h w.occurs in none-some k.0 (sym q ∙ k.1)

  pub well_formed_tail : (a : Event V V ℕ) (h : History V) → WellFormed (a ∷ h) → WellFormed h
  well_formed_tail (by x o) h wf = wf.1

  -- a number that no job has: 0, or above the count of openings
  abbrev Unnumbered : History V → ℕ → Type 0
  Unnumbered h x = 1 ≤ x → openings h < x

  unnumbered_projection : (h : History V) → WellFormed h → (x : ℕ) → Unnumbered h x → projection h x ≡ []
  unnumbered_projection [] wf x l = refl
  unnumbered_projection (by y d ∷ h) wf x l = let ih = unnumbered_projection h (well_formed_tail (by y d) h wf) in grind (arith, l, wf, ih x, ih y, eqb-true y x)

  pub unopened_projection : (h : History V) → WellFormed h → (x : ℕ) → openings h < x → projection h x ≡ []
  unopened_projection h wf x l = unnumbered_projection h wf x (λ _. l)

  pub projection_zero : (h : History V) → WellFormed h → projection h 0 ≡ []
  projection_zero h wf = unnumbered_projection h wf 0 (λ l. absurd (omega arith))

  -- an active job has no place
  pub active_unplaced : (h : History V) → WellFormed h → (x : ℕ) → is_active (projection h x) ≡ true → end_place (projection h x) ≡ None
  active_unplaced [] wf x o = refl
  active_unplaced (by y d ∷ h) wf x o = let ih = active_unplaced h (well_formed_tail (by y d) h wf) x in grind (arith, o, ih, wf, unopened_projection h wf.1 x, eqb-true y x)

  -- a committed job has a place
  pub committed_ends : (s : List (Operation V V ℕ)) → is_committed s ≡ true → is_some (end_place s) ≡ true
  committed_ends [] e = e
  committed_ends (o ∷ s) e = let ih = committed_ends s in grind (arith, ih, e)

  pub active_uncommitted : (h : History V) → WellFormed h → (x : ℕ) → is_active (projection h x) ≡ true → is_committed (projection h x) ≡ false
  active_uncommitted h wf x o = false_from_ne_true (is_committed (projection h x)) (λ q. both_ways (is_some (end_place (projection h x))) (ap is_some (active_unplaced h wf x o)) (committed_ends (projection h x) q))

  -- what a job installs it has committed
  installs_step : (y x c : ℕ) (h : History V) (d : Operation V V ℕ) (b : Bool) (v : V) → eqb y x ≡ b → WellFormed (by y d ∷ h) →
      ((w : V) → installs (projection h x) c ≡ Some w → CommittedCell h x c) → installs (cond b (d ∷ projection h x) (projection h x)) c ≡ Some v →
      CommittedCell (by y d ∷ h) x c
  installs_step y x c h d false v e wf ih q = committed_later (by y d) (ih v q)
  installs_step y x c h opens true v e wf ih q = committed_later (by y opens) (ih v q)
  installs_step y x c h (reads k w) true v e wf ih q = committed_later (by y (reads k w)) (ih v q)
  installs_step y x c h (writes k w) true v e wf ih q = absurd (none-some v (rw (active_uncommitted h wf.1 x (rw (eqb-true y x e) at wf.0)) at q))
  installs_step y x c h (commits p) true v e wf ih q = record { place = p; before = h; occurs = occurs_here h (commits p) y x (eqb-true y x e); wrote = buffered_wrote h x c v q }
  installs_step y x c h (abandons p) true v e wf ih q = committed_later (by y (abandons p)) (ih v q)

  pub installed_committed : (h : History V) → WellFormed h → (x c : ℕ) (v : V) → installs (projection h x) c ≡ Some v → CommittedCell h x c
  installed_committed [] wf x c v q = absurd (none-some v q)
  installed_committed (by y d ∷ h) wf x c v q = installs_step y x c h d (eqb y x) v refl wf (installed_committed h (well_formed_tail (by y d) h wf) x c) q

  -- a job's first-hand reads
  abbrev pub FirstHand : List (Operation V V ℕ) → ℕ → Type 0
  FirstHand [] c = ⊥
  FirstHand (opens ∷ s) c = FirstHand s c
  FirstHand (reads d v ∷ s) c = ((d ≡ c) × (buffered s c ≡ None)) ⊎ FirstHand s c
  FirstHand (writes d v ∷ s) c = FirstHand s c
  FirstHand (commits p ∷ s) c = FirstHand s c
  FirstHand (abandons p ∷ s) c = FirstHand s c

  first_hand_step : (y x c : ℕ) (h : History V) (d : Operation V V ℕ) (b : Bool) → eqb y x ≡ b → (FirstHand (projection h x) c → ReadGlobally h x c) →
      FirstHand (cond b (d ∷ projection h x) (projection h x)) c → ReadGlobally (by y d ∷ h) x c
  first_hand_step y x c h d false e ih f = read_later (by y d) (ih f)
  first_hand_step y x c h opens true e ih f = read_later (by y opens) (ih f)
  first_hand_step y x c h (reads k w) true e ih (inl f) =
      record {
        value = w;
        before = h;
        occurs = subst (λ k'. Extends (by y (reads k w) ∷ h) (by x (reads k' w) ∷ h)) f.0 (occurs_here h (reads k w) y x (eqb-true y x e));
        unwritten = unbuffered_unwritten h x c f.1;
      }
  first_hand_step y x c h (reads k w) true e ih (inr f) = read_later (by y (reads k w)) (ih f)
  first_hand_step y x c h (writes k w) true e ih f = read_later (by y (writes k w)) (ih f)
  first_hand_step y x c h (commits p) true e ih f = read_later (by y (commits p)) (ih f)
  first_hand_step y x c h (abandons p) true e ih f = read_later (by y (abandons p)) (ih f)

  pub first_hand_read : (h : History V) (x c : ℕ) → FirstHand (projection h x) c → ReadGlobally h x c
  first_hand_read [] x c f = absurd f
  first_hand_read (by y d ∷ h) x c f = first_hand_step y x c h d (eqb y x) refl (first_hand_read h x c) f

  -- a job that has done something has a number from 1 up to the count of openings
  pub numbered : (h : History V) → WellFormed h → (x : ℕ) → (projection h x ≡ [] → ⊥) → (1 ≤ x) × (x ≤ openings h)
  numbered h wf zero n = absurd (n (projection_zero h wf))
  numbered h wf (suc x) n = (omega arith, ⊎_elim (λ l. absurd (n (unopened_projection h wf (suc x) l))) (λ l. l) (cases_lt (openings h) (suc x)))
