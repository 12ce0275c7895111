-- A piece of a line.
use Rattle.std.specs.Prelude.{◌≡◌, ℕ, ◌+◌, true, List, length, take, is_ok, Result, nat_le}
use Rattle.terms.specs.declared.refusals.Refusal.{Refusal}
use Rattle.output.specs.Laid.{laid}
use Rattle.output.specs.Papers.{answered}

-- The bytes ps are written after the first u bytes of the paper xs, if 64 bytes remain after them, and are answered r; then
-- v bytes are used, and the paper holds ys. The used bytes stay as they were, whether there is room or not.
pub record Writes (u : ℕ) (xs ps : List ℕ) (r : Result (Unit {0}) Refusal) (v : ℕ) (ys : List ℕ) : Type 0 where
  pub answer : r ≡ answered (nat_le (u + length ps + 64) (length xs))
  pub used : is_ok r ≡ true → v ≡ u + length ps
  pub text : is_ok r ≡ true → ys ≡ laid xs u ps
  pub below : take u ys ≡ take u xs
