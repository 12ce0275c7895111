-- What is written of a number has only digits, and reads back as the number.
use Rattle.std.proofs.Common.{◌≡◌, ℕ, ◌+◌, ◌-◌, ◌*◌, ◌^◌, ◌<◌, Bool, true, ◌&&◌, List, [], ◌∷◌, Some, decimal, refl, ap, ◌∙◌, arith, rules}
use Rattle.std.proofs.lemmas.Str.Parse.{IsNumeralModel, numerals_by_fold}
use Rattle.std.proofs.lemmas.Fmt.{digits_decimal, digits_value-decimal, length-decimal-le, decimal_nonempty}
use Rattle.std.proofs.lemmas.Bool.{and_parts, cond-true}
use Rattle.text.specs.Numbers.{is_digit, digits_after, number_in}
use Rattle.text.proofs.Reading.{in_bounds}

-- the number that digits write after n
abbrev fold : ℕ → List ℕ → ℕ
fold n [] = n
fold n (c ∷ cs) = fold (n * 10 + (c - 48)) cs

abbrev pub digits_only : List ℕ → Bool
digits_only [] = true
digits_only (c ∷ cs) = is_digit c && digits_only cs

own : IsNumeralModel (λ ds. digits_only ds ≡ true) (fold 0)
own = numerals_by_fold _ (search rules) fold (search rules)

reads : (n : ℕ) (ds : List ℕ) → digits_only ds ≡ true → digits_after n ds ≡ Some (fold n ds)
reads n [] h = refl
reads n (c ∷ cs) h =
    let p = and_parts (is_digit c) (digits_only cs) h in
    cond-true (is_digit c) _ _ p.0 ∙ reads (n * 10 + (c - 48)) cs p.1

pub reads_back : (n : ℕ) → n < 10 ^ 19 → number_in (decimal n) ≡ Some n
reads_back n h =
    let f : n < 2 ^ 64 = omega arith in
    in_bounds (decimal n) (decimal_nonempty n f) (length-decimal-le 19 n (omega arith) h f)
    ∙ reads 0 (decimal n) (digits_decimal own n f)
    ∙ ap (λ (k : ℕ). Some k) (digits_value-decimal own n f)

pub only_digits : (n : ℕ) → n < 2 ^ 64 → digits_only (decimal n) ≡ true
only_digits n h = digits_decimal own n h
