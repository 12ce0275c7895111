-- Bytes written over others.
use Rattle.std.specs.Prelude.{ℕ, ◌+◌, List, ◌++◌, length, take, drop}

-- xs with ps written over it from the index `at` on
unfoldable pub laid : List ℕ → ℕ → List ℕ → List ℕ
laid xs at ps = take at xs ++ (ps ++ drop (at + length ps) xs)
