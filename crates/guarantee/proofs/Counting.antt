-- How many crews have a job, and the lengths of tables that a call has changed.
use Rattle.std.proofs.Common.{◌≡◌, ℕ, zero, suc, ◌+◌, ◌-◌, ◌*◌, ◌<◌, ◌≤◌, cond, eqb, leb, List, ◌++◌, length, take, drop, replicate, refl, ap, ◌∙◌, arith}
use Rattle.std.proofs.lemmas.List.{length-take-le, length-drop, length-append, length-replicate}
use Rattle.std.proofs.lemmas.Bool.{eqb-true, eqb-false, ne_eqb, le-leb, cond_both}
use Rattle.history.specs.Views.{updated}
use Rattle.rules.specs.Tables.{cleared, row}
use Rattle.rules.proofs.Changing.{rows_apart}

abbrev pub one : ℕ → ℕ
one j = cond (leb 1 j) 1 0

abbrev pub busy : (ℕ → ℕ) → ℕ → ℕ
busy j zero = 0
busy j (suc u) = one (j (suc u)) + busy j u

updated_above : (j : ℕ → ℕ) (w x m : ℕ) → m < w → busy (updated j w x) m ≡ busy j m
updated_above j w x zero l = refl
updated_above j w x (suc m) l = rw (ne_eqb w (suc m) (λ e. omega arith)) (ap (λ (k : ℕ). one (j (suc m)) + k) (updated_above j w x m (omega arith)))

pub busy_updated : (j : ℕ → ℕ) (w x m : ℕ) → 1 ≤ w → w ≤ m → busy (updated j w x) m + one (j w) ≡ busy j m + one x
busy_updated j w x zero a b = absurd (omega arith)
busy_updated j w x (suc m) a b = cond_both (eqb w (suc m)) _ _ (λ k. one k + busy (updated j w x) m + one (j w) ≡ one (j (suc m)) + busy j m + one x)
    (λ e. let q = eqb-true w (suc m) e in omega (arith, updated_above j w x m (omega (arith, q)), ap (λ (k : ℕ). one (j k)) q))
    (λ e. omega (arith, busy_updated j w x m a (omega (arith, eqb-false w (suc m) e))))

pub one_yes : (j : ℕ) → 1 ≤ j → one j ≡ 1
one_yes j l = rw (le-leb 1 j l) refl

pub one_no : (j : ℕ) → j ≡ 0 → one j ≡ 0
one_no j e = rw e refl

pub busy_at : (j : ℕ → ℕ) (w m : ℕ) → 1 ≤ w → w ≤ m → 1 ≤ j w → 1 ≤ busy j m
busy_at j w m a b c = omega (arith, busy_updated j w 0 m a b, one_yes (j w) c, one_no 0 refl)

row_fits : (n m w : ℕ) → 1 ≤ w → w ≤ m → row n w + n ≤ m * n
row_fits zero m w a b = omega arith
row_fits (suc n) m w a b = rows_apart (suc n) (w - 1) m (omega arith) (omega arith)

pub length_cleared : (xs : List ℕ) (n m w : ℕ) → length xs ≡ m * n → 1 ≤ w → w ≤ m → length (cleared xs n w) ≡ length xs
length_cleared xs n m w len a b =
    let f : row n w + n ≤ length xs = rw len (row_fits n m w a b) in
    length-append (take (row n w) xs) (replicate n 0 ++ drop (row n w + n) xs)
    ∙ omega (arith, f, length-take-le (row n w) xs (omega (arith, f)), length-append (replicate n 0) (drop (row n w + n) xs), length-replicate {A = ℕ} n 0, length-drop (row n w + n) xs)

pub none_busy : (m : ℕ) → 0 ≡ busy (λ w. 0) m
none_busy zero = refl
none_busy (suc m) = omega (arith, none_busy m)
