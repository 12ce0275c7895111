-- Rows of jobs: their moments, who stands in them, and what it is to stand once.
use Rattle.std.proofs.Common.{◌≡◌, ℕ, ◌≤◌, ◌⊎◌, List, [], ◌∷◌, length, refl, inl, inr, arith}
use Rattle.std.proofs.Math.Logic.{⊎_elim}
use Rattle.history.specs.Precedence.{Extends, In, StandsBefore, Once}
use Rattle.history.specs.Precedence.Extends.{here, later}

pub extends_trans : {A : Type 0} {k h g : List A} → Extends h g → Extends g k → Extends h k
extends_trans here t = t
extends_trans (later s) t = later (extends_trans s t)

pub extends_tail : {A : Type 0} {y x : A} {g h : List A} → Extends (y ∷ h) (x ∷ g) → Extends h g
extends_tail here = here
extends_tail (later s) = extends_trans s (later here)

pub extends_total : {A : Type 0} {p q h : List A} → Extends h p → Extends h q → Extends p q ⊎ Extends q p
extends_total here t = inl t
extends_total (later s) here = inr (later s)
extends_total (later s) (later t) = extends_total s t

-- of two jobs only one stands before the other
pub one_way : {x y : ℕ} (row : List ℕ) → Once row → StandsBefore row x y → StandsBefore row y x → ⊥
one_way {x} {y} row once (ea, s, (eb, i)) (ec, t, (ed, j)) =
    ⊎_elim (λ u. once y (ea, s, (ed, extends_trans (extends_tail u) j))) (λ u. once x (ec, t, (eb, extends_trans (extends_tail u) i))) (extends_total s t)

pub extends_length : {A : Type 0} {h g : List A} → Extends h g → length g ≤ length h
extends_length here = omega arith
extends_length (later s) = let k = extends_length s in omega arith

pub in_later : (x y : ℕ) (r : List ℕ) → In x r → In x (y ∷ r)
in_later x y r (ea, s) = (ea, later s)

pub in_cases : (z y : ℕ) (r : List ℕ) → In z (y ∷ r) → (z ≡ y) ⊎ In z r
in_cases z y r (_, here) = inl refl
in_cases z y r (ea, later s) = inr (ea, s)

pub in_nil : (z : ℕ) → In z [] → ⊥
in_nil z (ea, s) = elim s [ ]

pub in_one : (z y : ℕ) → In z (y ∷ []) → z ≡ y
in_one z y i = ⊎_elim (λ e. e) (λ j. absurd (in_nil z j)) (in_cases z y [] i)

pub in_head : (z y : ℕ) (r : List ℕ) → z ≡ y → In z (y ∷ r)
in_head z y r e = (r, rw e here)

pub once_tail : (y : ℕ) (r : List ℕ) → Once (y ∷ r) → Once r
once_tail y r o x (ea, s, i) = o x (ea, later s, i)

pub once_head : (y : ℕ) (r : List ℕ) → Once (y ∷ r) → In y r → ⊥
once_head y r o i = o y (r, here, i)

-- the same as `Once`, said of the head and the rest
abbrev pub Distinct : List ℕ → Type 0
Distinct [] = Unit {0}
Distinct (y ∷ r) = (In y r → ⊥) × Distinct r

pub distinct : (row : List ℕ) → Once row → Distinct row
distinct [] o = tt
distinct (y ∷ r) o = (once_head y r o, distinct r (once_tail y r o))

pub distinct_once : (x : ℕ) {ea row : List ℕ} → Extends row (x ∷ ea) → Distinct row → In x ea → ⊥
distinct_once x here d i = d.0 i
distinct_once x (later s) d i = distinct_once x s d.1 i
