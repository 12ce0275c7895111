-- Fields and lines: a comma, byte 44, parts the fields of a line, and a line feed, byte 10, ends a line.
use Rattle.std.specs.Prelude.{ℕ, ◌+◌, cond, List, [], ◌∷◌, ◌==◌}

-- what stands before the first byte s: all where there is none
abbrev pub before : ℕ → List ℕ → List ℕ
before s [] = []
before s (x ∷ xs) = cond (x == s) [] (x ∷ before s xs)

-- what stands after the first byte s: nothing where there is none
abbrev pub after : ℕ → List ℕ → List ℕ
after s [] = []
after s (x ∷ xs) = cond (x == s) xs (after s xs)

-- how many fields a line has: one more than its commas
abbrev pub field_count : List ℕ → ℕ
field_count [] = 1
field_count (x ∷ xs) = cond (x == 44) (1 + field_count xs) (field_count xs)

-- x in front of the first line
abbrev pub joined : ℕ → List (List ℕ) → List (List ℕ)
joined x [] = (x ∷ []) ∷ []
joined x (l ∷ ls) = (x ∷ l) ∷ ls

-- the lines of a text: a line feed ends each, and may be missing on the last
abbrev pub lines_of : List ℕ → List (List ℕ)
lines_of [] = []
lines_of (x ∷ xs) = cond (x == 10) ([] ∷ lines_of xs) (joined x (lines_of xs))
