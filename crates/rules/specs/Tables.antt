-- Tables as lists, by cell and by crew; both are numbered from 1.
use Rattle.std.specs.Prelude.{ℕ, zero, suc, ◌+◌, ◌-◌, ◌*◌, ◌%◌, max, Bool, false, cond, ◌||◌, List, [], ◌∷◌, ◌++◌, take, drop, replicate, ◌==◌, nat_le, nat_lt, slice_index_or, slice_set}

-- the element of number k; d where there is none
abbrev pub at : {A : Type 0} → List A → ℕ → A → A
at xs k d = slice_index_or xs (k - 1) d

-- v for the element of number k
abbrev pub put : {A : Type 0} → List A → ℕ → A → List A
put xs k v = slice_set xs (k - 1) v

-- each element by its number, k for the first, and by what it was
abbrev pub each_from : {A : Type 0} → ℕ → (ℕ → A → A) → List A → List A
each_from k f [] = []
each_from k f (x ∷ xs) = f k x ∷ each_from (suc k) f xs

abbrev pub each : {A : Type 0} → (ℕ → A → A) → List A → List A
each f xs = each_from 1 f xs

-- where the row of crew w begins in a table of crews and cells, and the spot of its cell c:
-- these two alone know how such a table is laid out
abbrev pub row : ℕ → ℕ → ℕ
row cells w = (w - 1) * cells

abbrev pub spot : ℕ → ℕ → ℕ → ℕ
spot cells w c = row cells w + (c - 1)

-- zeros for the row of crew w
abbrev pub cleared : List ℕ → ℕ → ℕ → List ℕ
cleared flags cells w = take (row cells w) flags ++ (replicate cells 0 ++ drop (row cells w + cells) flags)

-- the largest of f 1, .. f n; 0 where n is 0
abbrev pub most : (ℕ → ℕ) → ℕ → ℕ
most f zero = 0
most f (suc n) = max (f (suc n)) (most f n)

-- one of t 1, .. t n holds
abbrev pub some : (ℕ → Bool) → ℕ → Bool
some t zero = false
some t (suc n) = t (suc n) || some t n

-- k is 0 or over n: the number of nothing that is numbered from 1 to n
abbrev pub outside : ℕ → ℕ → Bool
outside n k = k == 0 || nat_lt n k

---- Flags: of a flag byte only the remainder by 4 counts, 1 for 'read first-hand' plus 2 for 'written'

-- the job has read the cell first-hand: from the register, and not from its own values
abbrev pub read_flag : ℕ → Bool
read_flag flag = flag % 4 % 2 == 1

-- the job has written the cell
abbrev pub written_flag : ℕ → Bool
written_flag flag = nat_le 2 (flag % 4)

-- the remainder with the one or the other in it
abbrev pub with_read : ℕ → ℕ
with_read flag = cond (read_flag flag) (flag % 4) (flag % 4 + 1)

abbrev pub with_written : ℕ → ℕ
with_written flag = cond (written_flag flag) (flag % 4) (flag % 4 + 2)
