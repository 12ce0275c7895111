-- The values in the order of time: what each cell has at a moment, and what each read was told.
use Rattle.std.specs.Prelude.{◌≡◌, ℕ, cond, List, [], ◌∷◌}
use Rattle.std.specs.Option.{unwrap_or}
use Rattle.history.specs.Events.{Operation, History, is_commit}
use Rattle.history.specs.Events.Operation.{opens, reads, writes, commits, abandons}
use Rattle.history.specs.Events.Event.{by}
use Rattle.history.specs.Projections.{projection, buffered}

-- the value of cell c after h: a commit puts the values that its job has in its buffer into their cells
abbrev pub committed_value : {V : Type 0} → (ℕ → V) → History V → ℕ → V
committed_value first [] c = first c
committed_value first (by x o ∷ h) c = cond (is_commit o) (unwrap_or (buffered (projection h x) c) (committed_value first h c)) (committed_value first h c)

-- each read told the job's own value, if it had one, and otherwise the cell's of that moment
abbrev pub ReadsCurrent : {V : Type 0} → (ℕ → V) → History V → Type 0
ReadsCurrent first [] = Unit {0}
ReadsCurrent first (by x opens ∷ h) = ReadsCurrent first h
ReadsCurrent first (by x (reads c v) ∷ h) = (v ≡ unwrap_or (buffered (projection h x) c) (committed_value first h c)) × ReadsCurrent first h
ReadsCurrent first (by x (writes c v) ∷ h) = ReadsCurrent first h
ReadsCurrent first (by x (commits p) ∷ h) = ReadsCurrent first h
ReadsCurrent first (by x (abandons p) ∷ h) = ReadsCurrent first h

-- what a job was told by its reads
abbrev pub observed : {V P : Type 0} → List (Operation V V P) → List V
observed [] = []
observed (opens ∷ s) = observed s
observed (reads c v ∷ s) = v ∷ observed s
observed (writes c v ∷ s) = observed s
observed (commits p ∷ s) = observed s
observed (abandons p ∷ s) = observed s
