-- The numbers of a schedule.
use Rattle.std.specs.Prelude.{ℕ, ◌+◌, ◌-◌, ◌*◌, Bool, cond, ◌&&◌, List, [], ◌∷◌, length, Some, None, Option, nat_le}

-- one of the bytes '0' to '9'
abbrev pub is_digit : ℕ → Bool
is_digit c = nat_le 48 c && nat_le c 57

-- the value of the digits that follow those of n; none where a byte is no digit
abbrev pub digits_after : ℕ → List ℕ → Option ℕ
digits_after n [] = Some n
digits_after n (c ∷ cs) = cond (is_digit c) (digits_after (n * 10 + (c - 48)) cs) None

-- the number in a field of 1 to 19 digits, zeros in front allowed; none in any other field
abbrev pub number_in : List ℕ → Option ℕ
number_in bs = cond (nat_le 1 (length bs) && nat_le (length bs) 19) (digits_after 0 bs) None
