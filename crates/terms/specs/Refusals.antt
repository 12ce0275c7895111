-- The refusals by number, with the numbers that each names.
use Rattle.std.specs.Prelude.{List, [], ◌∷◌, ℕ}
use Rattle.terms.specs.declared.refusals.TableName.{TableName}
use Rattle.terms.specs.declared.refusals.TableName.TheVariants.{Values, WrittenPlaces, ReadPlaces, JobRecords, OwnValues, Flags, Book}
use Rattle.terms.specs.declared.refusals.Cause.{Cause}
use Rattle.terms.specs.declared.refusals.Cause.TheVariants.{WrongLetter, WrongCount, NoNumber, OutOfRange}
use Rattle.terms.specs.declared.refusals.Refusal.{Refusal}
use Rattle.terms.specs.declared.refusals.Refusal.TheVariants.{NoCrew, NoCell, JobOpen, NoJob, PlacesSpent, BookFull, Stale, NoPlace, WrongTable, Damaged, BadLine, PaperFull, BadSize, NotFilled}

-- the tables in their order
abbrev pub table_number : TableName → ℕ
table_number Values = 1
table_number WrittenPlaces = 2
table_number ReadPlaces = 3
table_number JobRecords = 4
table_number OwnValues = 5
table_number Flags = 6
table_number Book = 7

-- the causes for which a line is bad, as the letters L, F, N and K
abbrev pub cause_letter : Cause → ℕ
cause_letter WrongLetter = 76
cause_letter WrongCount = 70
cause_letter NoNumber = 78
cause_letter OutOfRange = 75

abbrev pub number_of : Refusal → ℕ
number_of NoCrew = 1
number_of NoCell = 2
number_of JobOpen = 3
number_of NoJob = 4
number_of PlacesSpent = 5
number_of BookFull = 6
number_of (Stale p) = 7
number_of (NoPlace p) = 8
number_of (WrongTable t) = 9
number_of Damaged = 10
number_of (BadLine b) = 11
number_of PaperFull = 12
number_of BadSize = 13
number_of NotFilled = 14

-- the numbers that a refusal names: the place at which it ended the job, the wrong table, or the bad line and its bad field
abbrev pub values_of : Refusal → List ℕ
values_of NoCrew = []
values_of NoCell = []
values_of JobOpen = []
values_of NoJob = []
values_of PlacesSpent = []
values_of BookFull = []
values_of (Stale p) = p.0 ∷ []
values_of (NoPlace p) = p.0 ∷ []
values_of (WrongTable t) = table_number t ∷ []
values_of Damaged = []
values_of (BadLine b) = b.line ∷ (b.at.field ∷ [])
values_of PaperFull = []
values_of BadSize = []
values_of NotFilled = []
