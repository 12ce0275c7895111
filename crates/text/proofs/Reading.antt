-- A number read digit by digit.
use Rattle.std.proofs.Common.{◌≡◌, ℕ, ◌+◌, ◌-◌, ◌*◌, ◌^◌, ◌<◌, ◌≤◌, true, false, List, length, get_or, drop, None, ◌∙◌, pow-suc, add-one, arith, lit<}
use native.Mathlib.Nat.{pow-le-pow_right}
use Rattle.std.proofs.lemmas.List.{at_drop_more}
use Rattle.std.proofs.lemmas.Bool.{and_from, le-leb, cond-true, cond-false}
use Rattle.text.specs.Numbers.{is_digit, digits_after, number_in}

-- one digit more
pub read_more : (xs : List ℕ) (i n : ℕ) → i < length xs → is_digit (get_or xs i 0) ≡ true → digits_after n (drop i xs) ≡ digits_after (n * 10 + (get_or xs i 0 - 48)) (drop (i + 1) xs)
read_more xs i n h e = at_drop_more (digits_after n) xs i 0 h ∙ cond-true (is_digit (get_or xs i 0)) _ _ e

-- a byte that is no digit ends it
pub read_stop : (xs : List ℕ) (i n : ℕ) → i < length xs → is_digit (get_or xs i 0) ≡ false → digits_after n (drop i xs) ≡ None
read_stop xs i n h e = at_drop_more (digits_after n) xs i 0 h ∙ cond-false (is_digit (get_or xs i 0)) _ _ e

-- i digits give a number under 10 ^ i, and 19 of them fit 64 bits
pub more_lt : (n i d : ℕ) → n < 10 ^ i → d ≤ 9 → n * 10 + d < 10 ^ (i + 1)
more_lt n i d h k = rw (add-one, pow-suc 10 i) (omega arith)

pub more_fits : (n i d : ℕ) → n < 10 ^ i → i < 19 → d ≤ 9 → n * 10 + d < 2 ^ 64
more_fits n i d h k m =
    let p : 10 ^ i ≤ 10 ^ 18 = pow-le-pow_right (lit< tt) {i = i} {j = 18} (omega arith) in
    omega arith

pub in_bounds : (xs : List ℕ) → 1 ≤ length xs → length xs ≤ 19 → number_in xs ≡ digits_after 0 xs
in_bounds xs a b = cond-true _ _ _ (and_from _ _ (le-leb 1 (length xs) a) (le-leb (length xs) 19 b))
