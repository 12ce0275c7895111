-- Where a text is cut: fields, lines, and the count of fields.
use Rattle.std.specs.List.{filter}
use Rattle.std.proofs.Common.{◌≡◌, ℕ, zero, suc, ◌+◌, ◌<◌, Bool, true, false, cond, eqb, List, [], ◌∷◌, length, get_or, take, drop, refl, ap, arith, eq-eqb, ne_eqb}
use Rattle.text.specs.Split.{before, after, field_count, lines_of, joined}

-- the first separator stands at i
pub cut_at : (s : ℕ) (xs : List ℕ) (i : ℕ) → i < length xs → ((k : ℕ) → k < i → get_or xs k 0 ≡ s → ⊥) → get_or xs i 0 ≡ s → (take i xs ≡ before s xs) × (drop (suc i) xs ≡ after s xs)
cut_at s [] i h f e = absurd (omega arith)
cut_at s (x ∷ xs) zero h f e = let t = eq-eqb x s e in (simp t, simp t)
cut_at s (x ∷ xs) (suc i) h f e =
    let t = ne_eqb x s (f 0 (omega arith)) in
    let r = cut_at s xs i (omega arith) (λ k q. f (suc k) (omega arith)) e in
    (simp t (ap (λ (l : List ℕ). x ∷ l) r.0), simp t r.1)

-- there is no separator
pub cut_none : (s : ℕ) (xs : List ℕ) → ((k : ℕ) → k < length xs → get_or xs k 0 ≡ s → ⊥) → (xs ≡ before s xs) × ([] ≡ after s xs)
cut_none s [] f = (refl, refl)
cut_none s (x ∷ xs) f =
    let t = ne_eqb x s (f 0 (omega arith)) in
    let r = cut_none s xs (λ k q. f (suc k) (omega arith)) in
    (simp t (ap (λ (l : List ℕ). x ∷ l) r.0), simp t r.1)

lines_step : (x y : ℕ) (ys : List ℕ) (b : Bool) → lines_of (y ∷ ys) ≡ before 10 (y ∷ ys) ∷ lines_of (after 10 (y ∷ ys))
    → cond b ([] ∷ lines_of (y ∷ ys)) (joined x (lines_of (y ∷ ys))) ≡ cond b [] (x ∷ before 10 (y ∷ ys)) ∷ lines_of (cond b (y ∷ ys) (after 10 (y ∷ ys)))
lines_step x y ys true h = refl
lines_step x y ys false h = ap (joined x) h

lines_last : (x : ℕ) (b : Bool) → cond b ([] ∷ []) ((x ∷ []) ∷ []) ≡ cond b [] (x ∷ []) ∷ lines_of (cond b [] [])
lines_last x true = refl
lines_last x false = refl

-- a text that is not empty begins with what stands before its first line feed
pub lines_are : (x : ℕ) (xs : List ℕ) → lines_of (x ∷ xs) ≡ before 10 (x ∷ xs) ∷ lines_of (after 10 (x ∷ xs))
lines_are x [] = lines_last x (eqb x 10)
lines_are x (y ∷ ys) = lines_step x y ys (eqb x 10) (lines_are y ys)

abbrev pub is_comma : ℕ → Bool
is_comma x = eqb x 44

commas_more : (b : Bool) (c : List ℕ) (x n : ℕ) → 1 + length c ≡ n → 1 + length (cond b (x ∷ c) c) ≡ cond b (1 + n) n
commas_more true c x n h = omega (arith, h)
commas_more false c x n h = h

-- a line has one field more than commas
pub one_more_than_commas : (xs : List ℕ) → 1 + length (filter is_comma xs) ≡ field_count xs
one_more_than_commas [] = refl
one_more_than_commas (x ∷ xs) = commas_more (is_comma x) (filter is_comma xs) x (field_count xs) (one_more_than_commas xs)
