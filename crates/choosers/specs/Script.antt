-- What a script gives, by the numbers that it has not used up yet.
use Rattle.std.specs.Prelude.{ℕ, ◌+◌, cond, List, [], ◌∷◌, nat_lt}
use Rattle.choosers.specs.Meaning.{Meaning, no_room}
use Rattle.choosers.specs.declared.script.Script.{Script}

-- the number where it lies between the bounds, else low + 1
abbrev pub fitted : ℕ → ℕ → ℕ → ℕ
fitted number low high = cond (nat_lt low number) (cond (nat_lt number high) number (low + 1)) (low + 1)

-- the next number, fitted; low + 1 after the last
abbrev pub next_fitted : List ℕ → ℕ → ℕ → ℕ
next_fitted [] low high = low + 1
next_fitted (number ∷ numbers) low high = fitted number low high

-- the numbers after the next
abbrev pub after_next : List ℕ → List ℕ
after_next [] = []
after_next (number ∷ numbers) = numbers

-- the numbers left after further pairs: each pair with room uses up one
abbrev pub left_after : List ℕ → List (ℕ × ℕ) → List ℕ
left_after numbers [] = numbers
left_after numbers (pair ∷ pairs) = left_after (cond (no_room pair.0 pair.1) numbers (after_next numbers)) pairs

abbrev pub script_meaning : List ℕ → Meaning
script_meaning numbers further low high = cond (no_room low high) low (next_fitted (left_after numbers further) low high)

-- the numbers that the code's script has not used up
abbrev pub not_used : Script → List ℕ
not_used s = s.left.now
