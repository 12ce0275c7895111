-- A history's projection on one job: the job's own operations, and what they say of the job.
use Rattle.std.specs.Prelude.{◌≡◌, ℕ, suc, Bool, true, false, cond, not, ◌&&◌, ◌||◌, List, [], ◌∷◌, Some, None, Option, ◌==◌}
use Rattle.std.specs.Option.{option_or}
use Rattle.history.specs.Events.{Operation, Events, is_opening, is_commit, ends_at, is_ending, openings}
use Rattle.history.specs.Events.Operation.{opens, reads, writes, commits, abandons}
use Rattle.history.specs.Events.Event.{by}

abbrev pub projection : {V R P : Type 0} → Events V R P → ℕ → List (Operation V R P)
projection [] x = []
projection (by y o ∷ h) x = cond (y == x) (o ∷ projection h x) (projection h x)

-- the job's write buffer: the value that it wrote last into cell c, if any
abbrev pub buffered : {V R P : Type 0} → List (Operation V R P) → ℕ → Option V
buffered [] c = None
buffered (opens ∷ s) c = buffered s c
buffered (reads d v ∷ s) c = buffered s c
buffered (writes d v ∷ s) c = cond (d == c) (Some v) (buffered s c)
buffered (commits p ∷ s) c = buffered s c
buffered (abandons p ∷ s) c = buffered s c

abbrev pub is_committed : {V R P : Type 0} → List (Operation V R P) → Bool
is_committed [] = false
is_committed (o ∷ s) = is_commit o || is_committed s

-- opened and not ended
abbrev pub is_active : {V R P : Type 0} → List (Operation V R P) → Bool
is_active [] = false
is_active (o ∷ s) = is_opening o || (not (is_ending o) && is_active s)

-- the place at which a job ended, if it has
abbrev pub end_place : {V R P : Type 0} → List (Operation V R P) → Option P
end_place [] = None
end_place (o ∷ s) = option_or (ends_at o) (end_place s)

-- Each job opens once, the k-th as job k, and does the rest while it is active.
abbrev pub WellFormed : {V R P : Type 0} → Events V R P → Type 0
WellFormed [] = Unit {0}
WellFormed (by x o ∷ h) = cond (is_opening o) (x ≡ suc (openings h)) (is_active (projection h x) ≡ true) × WellFormed h
