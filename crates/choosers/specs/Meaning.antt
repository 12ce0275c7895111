-- What a chooser means, and the law that every chooser keeps.
use Rattle.std.specs.Prelude.{◌≡◌, ℕ, ◌+◌, ◌<◌, ◌≤◌, Bool, List, ◌∷◌, ◌++◌, nat_lt}

-- the place that a chooser would give for each low and high bound, after each list of further pairs of bounds
abbrev pub Meaning : Type 0
Meaning = List (ℕ × ℕ) → ℕ → ℕ → ℕ

-- its meaning once it has given a place for one pair
abbrev pub moved_on : Meaning → ℕ → ℕ → Meaning
moved_on f low high = λ further. f ((low, high) ∷ further)

-- no place lies between the bounds
abbrev pub no_room : ℕ → ℕ → Bool
no_room low high = nat_lt high (low + 2)

-- the law
pub record KeepsLaw (f : Meaning) : Type 0 where
  -- with room, the place is above low and below high
  pub between : (further : List (ℕ × ℕ)) (low high : ℕ) → low + 2 ≤ high → (low < f further low high) × (f further low high < high)
  -- without room, the place is low
  pub low_without_room : (further : List (ℕ × ℕ)) (low high : ℕ) → high < low + 2 → f further low high ≡ low
  -- a pair without room moves nothing, wherever it stands among the further pairs
  pub unmoved_without_room : (before after : List (ℕ × ℕ)) (low high l h : ℕ) → high < low + 2 → f (before ++ ((low, high) ∷ after)) l h ≡ f (before ++ after) l h
