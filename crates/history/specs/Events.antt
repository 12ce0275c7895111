-- What happened: the accepted calls of a register as events, and the jobs that they make.
-- Every list of this crate has the newest first: the last event of a history stands at its head, and so does the last job of a row.
-- A moment of a history is its older part, what had happened until then.
use Rattle.std.specs.Prelude.{ℕ, suc, Bool, true, false, cond, ◌&&◌, List, [], ◌∷◌, is_some, Some, None, Option, ◌==◌}

-- An accepted call with its answer. V is the type of the values, R of the answer to a read, P of the answer to an ending.
-- A history has the value that was read and the place that was given; calls that have no answers yet have Unit for both.
pub data Operation (V R P : Type 0) : Type 0 where
  opens : Operation V R P
  reads : (cell : ℕ) (answer : R) → Operation V R P
  writes : (cell : ℕ) (value : V) → Operation V R P
  commits : (place : P) → Operation V R P
  abandons : (place : P) → Operation V R P

-- an operation, and the number of the crew, or of the job, whose operation it is
pub data Event (V R P : Type 0) : Type 0 where
  by : ℕ → Operation V R P → Event V R P

abbrev pub Events : Type 0 → Type 0 → Type 0 → Type 0
Events V R P = List (Event V R P)

-- events with all their answers
abbrev pub History : Type 0 → Type 0
History V = Events V V ℕ

---- Kinds of operations

abbrev pub is_opening : {V R P : Type 0} → Operation V R P → Bool
is_opening opens = true
is_opening (reads c v) = false
is_opening (writes c v) = false
is_opening (commits p) = false
is_opening (abandons p) = false

abbrev pub is_commit : {V R P : Type 0} → Operation V R P → Bool
is_commit opens = false
is_commit (reads c v) = false
is_commit (writes c v) = false
is_commit (commits p) = true
is_commit (abandons p) = false

-- the place at which an operation ends its job, if it does: to commit and to abandon are the two endings
abbrev pub ends_at : {V R P : Type 0} → Operation V R P → Option P
ends_at opens = None
ends_at (reads c v) = None
ends_at (writes c v) = None
ends_at (commits p) = Some p
ends_at (abandons p) = Some p

abbrev pub is_ending : {V R P : Type 0} → Operation V R P → Bool
is_ending o = is_some (ends_at o)

---- From crews to jobs: the k-th accepted opening is job k, and a job's steps are its crew's accepted calls up to its ending

-- how many jobs have opened
abbrev pub openings : {V R P : Type 0} → Events V R P → ℕ
openings [] = 0
openings (by w o ∷ run) = cond (is_opening o) (suc (openings run)) (openings run)

-- the number of the job that crew w has open, or 0
abbrev pub open_job : {V R P : Type 0} → Events V R P → ℕ → ℕ
open_job [] w = 0
open_job (by u o ∷ run) w = cond (is_opening o && u == w) (suc (openings run)) (cond (is_ending o && u == w) 0 (open_job run w))

-- the events of crews as the events of their jobs
abbrev pub by_jobs : {V R P : Type 0} → Events V R P → Events V R P
by_jobs [] = []
by_jobs (by w o ∷ run) = by (cond (is_opening o) (suc (openings run)) (open_job run w)) o ∷ by_jobs run

-- the crew that opened job x
abbrev pub crew_of : {V R P : Type 0} → Events V R P → ℕ → ℕ
crew_of [] x = 0
crew_of (by w o ∷ run) x = cond (is_opening o && suc (openings run) == x) w (crew_of run x)
