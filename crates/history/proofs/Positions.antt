-- The positions in a row: they rise along it, and a row of numbers from 1 to n has at most n.
use Rattle.std.proofs.Common.{◌≡◌, ℕ, suc, ◌<◌, ◌≤◌, true, false, eqb, List, [], ◌∷◌, length, refl, arith}
use Rattle.std.specs.List.{list_any, AllByRecursion, IsDistinct}
use Rattle.std.proofs.Math.Logic.{⊎_elim}
use Rattle.std.proofs.lemmas.Bool.{eqb-true, eq-eqb, ne_eqb, both_ways, or_cases}
use Rattle.std.proofs.lemmas.Map.Steps.{length-le_from_distinct_below}
use Rattle.history.specs.Precedence.{Extends, In, StandsBefore, Once}
use Rattle.history.specs.Precedence.Extends.{here, later}
use Rattle.history.specs.Acceptance.{position}
use Rattle.history.proofs.Rows.{extends_trans, extends_length, in_later, in_cases, in_head, once_tail, once_head, Distinct, distinct}

position_at : (x : ℕ) {ea row : List ℕ} → Extends row (x ∷ ea) → Once row → position row x ≡ suc (length ea)
position_at x here o = rw (eq-eqb x x refl)
position_at x {ea = ea} (later {a = y} {h = r} s) o = rw (ne_eqb y x (λ e. once_head y r o (ea, rw e s))) (position_at x s (once_tail y r o))

pub position_rises : (x y : ℕ) (row : List ℕ) → Once row → StandsBefore row x y → position row x < position row y
position_rises x y row o (ea, s, (eb, t)) = omega (arith, position_at y s o, position_at x (extends_trans s (later t)) o, extends_length t)

pub position_low : (x : ℕ) (row : List ℕ) → Once row → In x row → (1 ≤ position row x) × (position row x ≤ length row)
position_low x row o (ea, s) = let k = position_at x s o in let l = extends_length s in (omega arith, omega arith)

-- a row that stands once, in std's words
apart : (y : ℕ) (r : List ℕ) → (In y r → ⊥) → AllByRecursion (λ z. eqb y z ≡ false) r
apart y [] n = tt
apart y (z ∷ r) n = (ne_eqb y z (λ e. n (in_head y z r e)), apart y r (λ i. n (in_later y z r i)))

is_distinct : (r : List ℕ) → Distinct r → IsDistinct eqb r
unfolding IsDistinct
is_distinct [] d = tt
is_distinct (y ∷ r) d = (apart y r d.0, is_distinct r d.1)

in_when_found : (x : ℕ) (r : List ℕ) → list_any (eqb x) r ≡ true → In x r
in_when_found x [] e = absurd (both_ways false refl e)
in_when_found x (y ∷ r) e = ⊎_elim (λ q. in_head x y r (eqb-true x y q)) (λ q. in_later x y r (in_when_found x r q)) (or_cases (eqb x y) (list_any (eqb x) r) e)

-- with 0 before them, numbers from 1 to n that stand once are below n + 1
pub row_length : (n : ℕ) (row : List ℕ) → Once row → ((x : ℕ) → In x row → (1 ≤ x) × (x ≤ n)) → length row ≤ n
row_length n row o f = omega (arith, length-le_from_distinct_below (0 ∷ row) (suc n) (is_distinct (0 ∷ row) ((λ i. omega (arith, (f 0 i).0)), distinct row o)) below)
  where
    below : (x : ℕ) → list_any (eqb x) (0 ∷ row) ≡ true → x < suc n
    below x e = ⊎_elim (λ q. omega arith) (λ i. omega (arith, (f x i).1)) (in_cases x 0 row (in_when_found x (0 ∷ row) e))
