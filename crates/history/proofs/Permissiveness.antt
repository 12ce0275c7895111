-- Permissiveness, both ways: the positions in a serialization order are accepted as places, and what is accepted has a serialization order.
use Rattle.std.proofs.Common.{◌≡◌, ℕ, suc, cond, ◌+◌, ◌<◌, ◌≤◌, ◌↔◌, List, [], ◌∷◌, subst, arith}
use Rattle.std.proofs.Math.Logic.{⊎_elim}
use Rattle.history.specs.Events.{Operation, Events, is_opening, openings, open_job, by_jobs}
use Rattle.history.specs.Events.Event.{by}
use Rattle.history.specs.Precedence.{Extends, Precedes, SerializationOrder}
use Rattle.history.specs.Precedence.Extends.{here, later}
use Rattle.history.specs.Precedence.Precedes.{real_time, committed_read, read_committed, committed_committed}
use Rattle.history.specs.WellMade.{WellMade, Calls, WellMadeList}
use Rattle.history.specs.Acceptance.{AcceptedAt, position, positions}
use Rattle.history.proofs.Rows.{extends_trans}
use Rattle.history.proofs.Crews.{openings_by_job, openings_tail, open_job_numbered}
use Rattle.history.proofs.Viewing.{views_opaque}
use Rattle.history.proofs.Alike.{Alike, by_jobs_alike, order_alike, calls_alike}
use Rattle.history.proofs.Positions.{position_rises, position_low, row_length}
use Rattle.history.proofs.Accepting.{RisingPlaces, rising_accepted}

module _ {V R P : Type 0} where
  abbrev Numbered : Events V R P → ℕ → Type 0
  Numbered cs x = (1 ≤ x) × (x ≤ openings cs)

  -- whoever has an event is a job of the list
  last_or_earlier : (n j x : ℕ) {d e : Operation V R P} {h g : Events V R P} → (1 ≤ j) × (j ≤ n) → (Extends h (by x e ∷ g) → (1 ≤ x) × (x ≤ n)) → Extends (by j d ∷ h) (by x e ∷ g) → (1 ≤ x) × (x ≤ n)
  last_or_earlier n j x k f here = k
  last_or_earlier n j x k f (later s) = f s

  occurs_numbered : (cs : Events V R P) → WellMade cs → (x : ℕ) {d : Operation V R P} {g : Events V R P} → Extends (by_jobs cs) (by x d ∷ g) → Numbered cs x
  occurs_numbered [] wm x s = elim s [ ]
  occurs_numbered (by w o ∷ cs) wm x s = last_or_earlier (openings (by w o ∷ cs)) (cond (is_opening o) (suc (openings cs)) (open_job cs w)) x (grind (arith, wm, open_job_numbered cs w))
      (λ t. let k = occurs_numbered cs wm.1 x t in (k.0, omega (arith, k.1, openings_tail w o cs))) s

  module _ (cs : Events V R P) (wm : WellMade cs) where
    both_numbered : {x y : ℕ} {d e : Operation V R P} {g k : Events V R P} → Extends (by_jobs cs) (by y d ∷ g) → Extends g (by x e ∷ k) → Numbered cs x × Numbered cs y
    both_numbered {x = x} {y = y} s t = (occurs_numbered cs wm x (extends_trans s (later t)), occurs_numbered cs wm y s)

    precedes_numbered : {x y : ℕ} → Precedes (by_jobs cs) x y → Numbered cs x × Numbered cs y
    precedes_numbered (real_time s e) = ⊎_elim (both_numbered s) (both_numbered s) e.occurs
    precedes_numbered (committed_read s n e) = both_numbered s e.occurs
    precedes_numbered (read_committed s w e) = both_numbered s e.occurs
    precedes_numbered (committed_committed s w e) = both_numbered s e.occurs

    positions_rise : (top b : ℕ) (row : List ℕ) → b + 2 ≤ top → openings cs ≤ b → SerializationOrder (by_jobs cs) row → RisingPlaces top (position row) cs
    positions_rise top b row t entries_suffice l = record { rises = rises; within = within }
      where
        within : (x : ℕ) → 1 ≤ x → x ≤ openings cs → (1 ≤ position row x) × (position row x + 2 ≤ top)
        within x p q =
            let k = position_low x row l.once (l.all x p (rw (openings_by_job cs) q)) in
            let z = row_length (openings (by_jobs cs)) row l.once l.only in
            (k.0, omega (arith, k.1, z, openings_by_job cs))

        rises : (x y : ℕ) → (x ≡ y → ⊥) → Precedes (by_jobs cs) x y → position row x < position row y
        rises x y n b =
            let k = precedes_numbered b in
            position_rises x y row l.once (l.rules x y (l.all x k.0.0 (rw (openings_by_job cs) k.0.1)) (l.all y k.1.0 (rw (openings_by_job cs) k.1.1)) n b)

pub positions_accepted : {V : Type 0} (first : ℕ → V) (own : ℕ → ℕ → V) (top n m b : ℕ) (cs : Calls V) → b + 2 ≤ top → WellMadeList n m b cs → (row : List ℕ) →
    SerializationOrder (by_jobs cs) row → AcceptedAt top n first own cs (positions (position row) cs)
positions_accepted first own top n m b cs t wl row l =
    rising_accepted top n m first own (position row) cs wl.orderly wl.in_range (positions_rise cs wl.orderly top b row t wl.entries_suffice l)

pub accepted_has_order : {V : Type 0} (first : ℕ → V) (own : ℕ → ℕ → V) (top n : ℕ) (cs : Calls V) (places : List ℕ) → 2 ≤ top → AcceptedAt top n first own cs places →
    (row : List ℕ) × SerializationOrder (by_jobs cs) row
accepted_has_order first own top n cs places t a =
    let o = views_opaque first own top n a.run a.view t a.view_run a.run here in
    let k = subst (λ z. Alike a.run z) a.same_calls (calls_alike a.run) in
    (o.0, order_alike (by_jobs_alike k) o.1)

pub views_permissive : {V : Type 0} (first : ℕ → V) (own : ℕ → ℕ → V) (top n m b : ℕ) (cs : Calls V) → b + 2 ≤ top → WellMadeList n m b cs →
    ((row : List ℕ) × SerializationOrder (by_jobs cs) row) ↔ ((places : List ℕ) × AcceptedAt top n first own cs places)
views_permissive first own top n m b cs t wl =
    ((λ l. (positions (position l.0) cs, positions_accepted first own top n m b cs t wl l.0 l.1)), (λ a. accepted_has_order first own top n cs a.0 (omega arith) a.1))
