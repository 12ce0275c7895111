-- The endings of jobs by letter.
use Rattle.std.specs.Prelude.{ℕ}
use Rattle.terms.specs.declared.records.Ending.{Ending}
use Rattle.terms.specs.declared.records.Ending.TheVariants.{Committed, Abandoned}

-- how a job ended, as the letters C and A
abbrev pub ending_letter : Ending → ℕ
ending_letter Committed = 67
ending_letter Abandoned = 65
