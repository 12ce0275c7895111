-- One of several, and the largest, over a range that counts from 0.
use Rattle.std.proofs.Common.{◌≡◌, ℕ, zero, suc, ◌+◌, max, Bool, false, ◌||◌, List, [], ◌∷◌, ◌++◌, fold, map, Option, unwrap_or, refl, ap, ◌∙◌, ap₂, arith}
use Rattle.std.proofs.Math.Bool.{or_comm}
use Rattle.std.proofs.lemmas.List.Folds.{list_any-append}
use Rattle.std.proofs.lemmas.List.Sums.{fold-append}
use Rattle.std.proofs.lemmas.Iterator.{YieldsList}
use Rattle.std.proofs.lemmas.Iterator.Consumers.{reduce_from_yields_List}
use Rattle.std.proofs.lemmas.List.Folds.{max_of_map}
use Rattle.std.specs.Iterator.{PicksByCmp}
use Rattle.std.specs.List.{list_any, range_with_len}
use Rattle.std.specs.Ordering.{nat_cmp, max_by_ordering}
use Rattle.rules.specs.Tables.{some, most}

range_more : (a n : ℕ) → range_with_len a (suc n) ≡ range_with_len a n ++ ((a + n) ∷ [])
range_more a zero = let e : a ≡ a + 0 = omega arith in ap (λ (k : ℕ). k ∷ []) e
range_more a (suc n) = let e : a + 1 + n ≡ a + suc n = omega arith in ap (λ (ks : List ℕ). a ∷ ks) (range_more (a + 1) n ∙ ap (λ (k : ℕ). range_with_len (a + 1) n ++ (k ∷ [])) e)

pub some_over : (t : ℕ → Bool) (n : ℕ) → list_any (λ i. t (i + 1)) (range_with_len 0 n) ≡ some t n
some_over t zero = refl
some_over t (suc n) =
    let others = list_any (λ i. t (i + 1)) (range_with_len 0 n) in
    let e : 0 + n + 1 ≡ suc n = omega arith in
    ap (list_any (λ i. t (i + 1))) (range_more 0 n) ∙ (list_any-append (λ i. t (i + 1)) (range_with_len 0 n) ((0 + n) ∷ [])
    ∙ (ap (λ (b : Bool). others || b) (or_comm (t (0 + n + 1)) false) ∙ (or_comm others (t (0 + n + 1)) ∙ ap₂ ◌||◌ (ap t e) (some_over t n))))

most_over : (f : ℕ → ℕ) (n : ℕ) → fold (λ a i. max a (f (i + 1))) 0 (range_with_len 0 n) ≡ most f n
most_over f zero = refl
most_over f (suc n) =
    let e : 0 + n + 1 ≡ suc n = omega arith in
    let last = ap f e in
    let others = most_over f n in
    ap (fold (λ a i. max a (f (i + 1))) 0) (range_more 0 n) ∙ (fold-append (λ a i. max a (f (i + 1))) 0 (range_with_len 0 n) ((0 + n) ∷ []) ∙ omega arith)

-- what `max` answers over the f of each
pub most_from_max : {S : Type 0} {steps : S → Option ℕ → S → Type 0} (f : ℕ → ℕ) (n : ℕ) (s : S) (r : Option ℕ) → PicksByCmp steps max_by_ordering nat_cmp s r
    → YieldsList steps (λ x. x) s (map (λ i. f (i + 1)) (range_with_len 0 n)) → unwrap_or r 0 ≡ most f n
most_from_max f n s r ran chain =
    ap (λ o. unwrap_or o 0) (reduce_from_yields_List (λ p z. max_by_ordering (nat_cmp p z) p z) s r ran chain) ∙ (max_of_map (λ i. f (i + 1)) (range_with_len 0 n) ∙ most_over f n)
