-- Serial execution: the jobs of a row done one after the other, each from its opening to its last step.
use Rattle.std.specs.Prelude.{◌≡◌, ℕ, cond, List, [], ◌∷◌, Some, None, Option, ◌==◌}
use Rattle.std.specs.Option.{unwrap_or}
use Rattle.history.specs.Events.{Operation, History, by_jobs}
use Rattle.history.specs.Events.Operation.{opens, reads, writes, commits, abandons}
use Rattle.history.specs.Projections.{projection}
use Rattle.history.specs.Values.{committed_value, observed}
use Rattle.history.specs.Precedence.{Extends, SerializationOrder}

-- the values and, for the job in hand, a held value or none for each cell, and what the job has been told
pub record SerialState (V : Type 0) : Type 0 where
  pub cells : ℕ → V
  pub buffer : ℕ → Option V
  pub observed : List V

-- at opening nothing is held; a read tells the held value if there is one, else the cell's; a write holds its value;
-- a commit puts the held values into their cells; to abandon puts none
abbrev pub perform : {V P : Type 0} → Operation V V P → SerialState V → SerialState V
perform opens k = record { cells = k.cells; buffer = λ c. None; observed = k.observed }
perform (reads c v) k = record { cells = k.cells; buffer = k.buffer; observed = unwrap_or (k.buffer c) (k.cells c) ∷ k.observed }
perform (writes c v) k = record { cells = k.cells; buffer = λ d. cond (c == d) (Some v) (k.buffer d); observed = k.observed }
perform (commits p) k = record { cells = λ c. unwrap_or (k.buffer c) (k.cells c); buffer = k.buffer; observed = k.observed }
perform (abandons p) k = k

-- a job's steps in their order, over these values; a job that is still open has put none
abbrev pub execute_job : {V P : Type 0} → (ℕ → V) → List (Operation V V P) → SerialState V
execute_job cells [] = record { cells = cells; buffer = λ c. None; observed = [] }
execute_job cells (o ∷ s) = perform o (execute_job cells s)

-- the values that a row of jobs leaves, each job with the steps that it has
abbrev pub execute_serially : {V P : Type 0} → (ℕ → List (Operation V V P)) → (ℕ → V) → List ℕ → ℕ → V
execute_serially steps first [] = first
execute_serially steps first (x ∷ row) = (execute_job (execute_serially steps first row) (steps x)).cells

-- serial execution in this row tells each job what it was told, and leaves the values that the cells have
pub record SeriallyExplained {V : Type 0} (first : ℕ → V) (h : History V) (row : List ℕ) : Type 0 where
  pub same_observed : (y : ℕ) (earlier : List ℕ) → Extends row (y ∷ earlier) → (execute_job (execute_serially (projection h) first earlier) (projection h y)).observed ≡ observed (projection h y)
  pub same_left : (c : ℕ) → execute_serially (projection h) first row c ≡ committed_value first h c

-- Opacity, of a run of crews: at each of its moments there is a serialization order of the jobs, open and abandoned ones too,
-- and serial execution in that order explains what each of them was told until then.
abbrev pub Opaque : {V : Type 0} → (ℕ → V) → History V → Type 0
Opaque {V} first run = (moment : History V) → Extends run moment →
    (row : List ℕ) × SerializationOrder (by_jobs moment) row × SeriallyExplained first (by_jobs moment) row
