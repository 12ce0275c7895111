-- What the place of crew w's commit must lie above, cell by cell and job by job.
use Rattle.std.specs.Prelude.{ℕ, ◌+◌, max, cond}
use Rattle.rules.specs.Tables.{at}
use Rattle.rules.specs.Registers.{Register, low_of, has_written}
use Rattle.rules.specs.JobCalls.{other_reader}

-- for cell c
abbrev pub cell_bound : {V : Type 0} → Register V → ℕ → ℕ → ℕ
cell_bound r w c = cond (has_written r w c) (max (at r.tables.written c 0) (at r.tables.read c 0)) 0

-- for the job of crew u
abbrev pub reader_bound : {V : Type 0} → Register V → ℕ → ℕ → ℕ
reader_bound r w u = cond (other_reader r w u) (low_of r u + 1) 0
