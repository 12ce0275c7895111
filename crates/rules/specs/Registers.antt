-- A started register, and what stands in its tables of a crew, its job and a cell.
-- A table may be damaged or too short: where it has no such job record, the record counts as closed, and where it has no such number, the number is 0.
-- Values have no default of their own: there d is taken, and every rule and every theorem is for each d.
-- No outcome depends on d, since a table of another length is refused first.
use Rattle.std.specs.Prelude.{ℕ, Bool, true, false, slice_index, slice_index_or}
use Rattle.terms.specs.declared.records.Standing.{Standing}
use Rattle.terms.specs.declared.records.Standing.TheVariants.{Closed, Open}
use Rattle.terms.specs.declared.records.JobRecord.{JobRecord}
use Rattle.rules.specs.declared.head.Started.{Started}
use Rattle.rules.specs.declared.tables.Tables.{Tables}
use Rattle.rules.specs.Heads.{StartedHead, started_of}
use Rattle.rules.specs.Contents.{Contents, contents_of, closed_record}
use Rattle.rules.specs.Tables.{at, spot, read_flag, written_flag}

pub record Register (V : Type 0) : Type 0 where
  pub head : StartedHead
  pub tables : Contents V

-- the register that the code's head and tables are
abbrev pub register_of : (V : Type 0) → Started → Tables V → Register V
register_of V head t = record { head = started_of head; tables = contents_of V t }

---- The job of crew w

abbrev pub record_of : {V : Type 0} → Register V → ℕ → JobRecord
record_of r w = at r.tables.jobs w closed_record

abbrev pub is_open : Standing → Bool
is_open Open = true
is_open Closed = false

abbrev pub has_job : {V : Type 0} → Register V → ℕ → Bool
has_job r w = is_open (record_of r w).standing

abbrev pub job_number : {V : Type 0} → Register V → ℕ → ℕ
job_number r w = (record_of r w).job.0

-- the two bounds between which its place will lie
abbrev pub low_of : {V : Type 0} → Register V → ℕ → ℕ
low_of r w = (record_of r w).low.0

abbrev pub high_of : {V : Type 0} → Register V → ℕ → ℕ
high_of r w = (record_of r w).high.0

---- The job of crew w and cell c

abbrev pub flag_of : {V : Type 0} → Register V → ℕ → ℕ → ℕ
flag_of r w c = slice_index r.tables.flags (spot r.head.sizes.cells w c)

-- the job has read the cell first-hand
abbrev pub has_read : {V : Type 0} → Register V → ℕ → ℕ → Bool
has_read r w c = read_flag (flag_of r w c)

abbrev pub has_written : {V : Type 0} → Register V → ℕ → ℕ → Bool
has_written r w c = written_flag (flag_of r w c)

-- the value that the job wrote
abbrev pub own_of : {V : Type 0} → V → Register V → ℕ → ℕ → V
own_of d r w c = slice_index_or r.tables.own (spot r.head.sizes.cells w c) d
