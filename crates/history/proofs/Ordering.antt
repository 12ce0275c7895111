-- Sorted by their places, the jobs stand in a serialization order.
use Rattle.std.proofs.Common.{◌≡◌, ℕ, zero, suc, ◌<◌, ◌≤◌, Bool, true, false, cond, leb, ◌⊎◌, List, [], ◌∷◌, sym, refl, ap, ◌∙◌, inl, inr, arith}
use Rattle.std.proofs.Math.Logic.{⊎_elim, ⊎_map}
use Rattle.std.proofs.lemmas.Bool.{both_ways, cases_eq, cond_both, leb-true, leb-false}
use Rattle.history.specs.Events.{History, openings}
use Rattle.history.specs.Projections.{projection, is_committed, WellFormed}
use Rattle.history.specs.Values.{ReadsCurrent}
use Rattle.history.specs.Precedence.{Extends, Precedes, In, StandsBefore, Once, Respects, SerializationOrder}
use Rattle.history.specs.Precedence.Extends.{here, later}
use Rattle.history.specs.SerialExecution.{SeriallyExplained}
use Rattle.history.specs.Bounds.{Placed, sort_key, Ascending}
use Rattle.history.proofs.Rows.{extends_total, in_later, in_cases, in_nil, in_head, Distinct, distinct_once}
use Rattle.history.proofs.Moments.{numbered}
use Rattle.history.proofs.Serially.{respectful_orders_explain}

-- a row in ascending keys, the last first
module _ (key : ℕ → ℕ) where
  abbrev pub insert : ℕ → List ℕ → List ℕ
  insert x [] = x ∷ []
  insert x (y ∷ r) = cond (leb (key y) (key x)) (x ∷ y ∷ r) (y ∷ insert x r)

  -- `Ascending`, said of the head and the rest
  abbrev pub Sorted : List ℕ → Type 0
  Sorted [] = Unit {0}
  Sorted (y ∷ r) = ((x : ℕ) → In x r → key x ≤ key y) × Sorted r

  sorted_since : (x : ℕ) {y : ℕ} {ea row : List ℕ} → Extends row (y ∷ ea) → Sorted row → In x ea → key x ≤ key y
  sorted_since x here so i = so.0 x i
  sorted_since x (later s) so i = sorted_since x s so.1 i

  pub sorted_ascending : (row : List ℕ) → Sorted row → Ascending key row
  sorted_ascending row so x y p = sorted_since x p.1 so p.2

  -- where the keys ascend, a job of a lower key stands before one of a higher
  pub stands_by_key : (row : List ℕ) → Ascending key row → (x y : ℕ) → In x row → In y row → (x ≡ y → ⊥) → key x < key y → StandsBefore row x y
  stands_by_key row asc x y (ea, s) (eb, t) ne lt =
      ⊎_elim (λ u. ⊎_elim (λ e. absurd (ne (sym e))) (λ i. absurd (omega (arith, asc y x (ea, s, i)))) (in_cases y x ea (eb, u)))
      (λ u. ⊎_elim (λ e. absurd (ne e)) (λ i. (eb, t, i)) (in_cases x y eb (ea, u)))
      (extends_total s t)

  -- who stands in the row after an insertion
  pub insert_in : (x : ℕ) (r : List ℕ) → In x (insert x r)
  insert_in x [] = ([], here)
  insert_in x (y ∷ r) = cond_both (leb (key y) (key x)) _ _ (In x) (λ _. (y ∷ r, here)) (λ _. in_later x y (insert x r) (insert_in x r))

  pub insert_keeps : (x z : ℕ) (r : List ℕ) → In z r → In z (insert x r)
  insert_keeps x z [] i = in_later z x [] i
  insert_keeps x z (y ∷ r) i = cond_both (leb (key y) (key x)) _ _ (In z) (λ _. in_later z x (y ∷ r) i)
      (λ _. ⊎_elim (in_head z y (insert x r)) (λ k. in_later z y (insert x r) (insert_keeps x z r k)) (in_cases z y r i))

  pub insert_cases : (x z : ℕ) (r : List ℕ) → In z (insert x r) → (z ≡ x) ⊎ In z r
  insert_cases x z [] i = in_cases z x [] i
  insert_cases x z (y ∷ r) i = cond_both (leb (key y) (key x)) _ _ (λ q. In z q → (z ≡ x) ⊎ In z (y ∷ r)) (λ _. in_cases z x (y ∷ r))
      (λ _ k. ⊎_elim (λ e. inr (in_head z y r e)) (λ m. ⊎_map (λ e. e) (in_later z y r) (insert_cases x z r m)) (in_cases z y (insert x r) k)) i

  pub insert_sorted : (x : ℕ) (r : List ℕ) → Sorted r → Sorted (insert x r)
  insert_sorted x [] so = ((λ z i. absurd (in_nil z i)), tt)
  insert_sorted x (y ∷ r) so = cond_both (leb (key y) (key x)) _ _ Sorted
      (λ e. let l = leb-true (key y) (key x) e in ((λ z i. ⊎_elim (λ q. rw q l) (λ m. omega (arith, so.0 z m, l)) (in_cases z y r i)), so))
      (λ e. let l = leb-false (key y) (key x) e in ((λ z i. ⊎_elim (λ q. rw q (omega (arith, l))) (λ m. so.0 z m) (insert_cases x z r i)), insert_sorted x r so.1))

  pub insert_distinct : (x : ℕ) (r : List ℕ) → (In x r → ⊥) → Distinct r → Distinct (insert x r)
  insert_distinct x [] n d = (n, tt)
  insert_distinct x (y ∷ r) n d = cond_both (leb (key y) (key x)) _ _ Distinct (λ _. (n, d))
      (λ _. ((λ i. ⊎_elim (λ e. n (in_head x y r (sym e))) d.0 (insert_cases x y r i)), insert_distinct x r (λ i. n (in_later x y r i)) d.1))

  -- the jobs 1, .. n that are not closed sorted into the row
  module _ (closed : ℕ → Bool) where
    abbrev pub fill : ℕ → List ℕ → List ℕ
    fill zero row = row
    fill (suc n) row = cond (closed (suc n)) (fill n row) (insert (suc n) (fill n row))

    pub fill_keeps : (n z : ℕ) (row : List ℕ) → In z row → In z (fill n row)
    fill_keeps zero z row i = i
    fill_keeps (suc n) z row i = let j = fill_keeps n z row i in cond_both (closed (suc n)) _ _ (In z) (λ _. j) (λ _. insert_keeps (suc n) z (fill n row) j)

    pub fill_in : (n z : ℕ) (row : List ℕ) → 1 ≤ z → z ≤ n → closed z ≡ false → In z (fill n row)
    fill_in zero z row a b e = absurd (omega arith)
    fill_in (suc n) z row a b e = cond_both (closed (suc n)) _ _ (In z)
        (λ f. ⊎_elim (λ q. absurd (both_ways (closed z) e (ap closed q ∙ f))) (λ q. fill_in n z row a (omega (arith, q)) e) (cases_eq z (suc n)))
        (λ f. ⊎_elim (λ q. rw q (insert_in (suc n) (fill n row))) (λ q. insert_keeps (suc n) z (fill n row) (fill_in n z row a (omega (arith, q)) e)) (cases_eq z (suc n)))

    pub fill_cases : (n z : ℕ) (row : List ℕ) → In z (fill n row) → In z row ⊎ ((1 ≤ z) × (z ≤ n) × (closed z ≡ false))
    fill_cases zero z row i = inl i
    fill_cases (suc n) z row i =
        let older : In z (fill n row) → In z row ⊎ ((1 ≤ z) × (z ≤ suc n) × (closed z ≡ false)) = λ j. ⊎_map (λ k. k) (λ k. (k.0, omega (arith, k.1), k.2)) (fill_cases n z row j) in
        cond_both (closed (suc n)) _ _ (λ q. In z q → In z row ⊎ ((1 ≤ z) × (z ≤ suc n) × (closed z ≡ false))) (λ _. older)
        (λ f j. ⊎_elim (λ e. inr (omega arith, omega arith, ap closed e ∙ f)) older (insert_cases (suc n) z (fill n row) j)) i

    pub fill_sorted : (n : ℕ) (row : List ℕ) → Sorted row → Sorted (fill n row)
    fill_sorted zero row so = so
    fill_sorted (suc n) row so = let s = fill_sorted n row so in cond_both (closed (suc n)) _ _ Sorted (λ _. s) (λ _. insert_sorted (suc n) (fill n row) s)

    pub fill_distinct : (n : ℕ) (row : List ℕ) → ((z : ℕ) → In z row → closed z ≡ true) → Distinct row → Distinct (fill n row)
    fill_distinct zero row c d = d
    fill_distinct (suc n) row c d = let ih = fill_distinct n row c d in cond_both (closed (suc n)) _ _ Distinct (λ _. ih)
        (λ f. insert_distinct (suc n) (fill n row) (λ i. ⊎_elim (λ j. both_ways (closed (suc n)) f (c (suc n) j)) (λ k. omega (arith, k.1)) (fill_cases n (suc n) row i)) ih)

  -- all jobs 1, .. n
  abbrev pub arrange : ℕ → List ℕ
  arrange n = fill (λ x. false) n []

  arrange_in : (n x : ℕ) → 1 ≤ x → x ≤ n → In x (arrange n)
  arrange_in n x a b = fill_in (λ x. false) n x [] a b refl

  arrange_low : (n x : ℕ) → In x (arrange n) → (1 ≤ x) × (x ≤ n)
  arrange_low n x i = ⊎_elim (λ j. absurd (in_nil x j)) (λ k. (k.0, k.1)) (fill_cases (λ x. false) n x [] i)

  arrange_distinct : (n : ℕ) → Distinct (arrange n)
  arrange_distinct n = fill_distinct (λ x. false) n [] (λ z i. absurd (in_nil z i)) tt

  arranged_ascends : (n : ℕ) → Ascending key (arrange n)
  arranged_ascends n = sorted_ascending (arrange n) (fill_sorted (λ x. false) n [] tt)

module _ {V : Type 0} (h : History V) (low high : ℕ → ℕ) (pl : Placed h low high) where
  -- the four rules put the keys apart
  pub keys_ascend : (x y : ℕ) → (x ≡ y → ⊥) → Precedes h x y → sort_key h low x < sort_key h low y
  keys_ascend x y ne b = grind (arith, pl.apart x y ne b, pl.room x)

  -- any row of all jobs in ascending keys, ties anyhow
  pub ascending_is_order : (row : List ℕ) → Once row → ((x : ℕ) → 1 ≤ x → x ≤ openings h → In x row) → ((x : ℕ) → In x row → (1 ≤ x) × (x ≤ openings h)) →
      Ascending (sort_key h low) row → SerializationOrder h row
  ascending_is_order row once all only asc = record { once = once; all = all; only = only; rules = λ x y i j ne b. stands_by_key (sort_key h low) row asc x y i j ne (keys_ascend x y ne b) }

  -- and there is one
  pub arranged_is_order : SerializationOrder h (arrange (sort_key h low) (openings h))
  arranged_is_order = ascending_is_order (arrange k n) (λ x p. distinct_once x p.1 (arrange_distinct k n) p.2) (arrange_in k n) (arrange_low k n) (arranged_ascends k n)
    where
      k : ℕ → ℕ
      k = sort_key h low

      n : ℕ
      n = openings h

pub order_respects : {V : Type 0} (h : History V) (row : List ℕ) → WellFormed h → SerializationOrder h row → Respects h row
order_respects h row wf l = record { once = l.once; rules = l.rules; all_committed = λ x q. let n = numbered h wf x (λ e. both_ways (is_committed (projection h x)) (ap is_committed e) q) in l.all x n.0 n.1 }

pub orders_explain : {V : Type 0} (first : ℕ → V) (h : History V) (row : List ℕ) → WellFormed h → ReadsCurrent first h → SerializationOrder h row → SeriallyExplained first h row
orders_explain first h row wf rc l = respectful_orders_explain first h row wf rc (order_respects h row wf l)

pub places_give_order : {V : Type 0} (first : ℕ → V) (h : History V) (low high : ℕ → ℕ) → WellFormed h → ReadsCurrent first h → Placed h low high →
    (row : List ℕ) × SerializationOrder h row × Ascending (sort_key h low) row × SeriallyExplained first h row
places_give_order first h low high wf rc pl =
    let l = arranged_is_order h low high pl in
    let row = arrange (sort_key h low) (openings h) in
    (row, l, arranged_ascends (sort_key h low) (openings h), orders_explain first h row wf rc l)
