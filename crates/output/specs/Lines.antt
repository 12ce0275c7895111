-- The lines of the output.
use Rattle.std.specs.Prelude.{ℕ, List, [], ◌∷◌, ◌++◌, Some, None, decimal, Option}
use Rattle.terms.specs.declared.refusals.Refusal.{Refusal}
use Rattle.terms.specs.declared.refusals.Refusal.TheVariants.{NoCrew, NoCell, JobOpen, NoJob, PlacesSpent, BookFull, Stale, NoPlace, WrongTable, Damaged, BadLine, PaperFull, BadSize, NotFilled}
use Rattle.terms.specs.Refusals.{number_of, values_of, cause_letter}
use Rattle.values.specs.Forms.{Form, after_commas}
use Rattle.output.specs.declared.lines.Lead.{Lead}
use Rattle.output.specs.declared.lines.Lead.TheVariants.{Letter, Number}

abbrev pub lead_bytes : Lead → List ℕ
lead_bytes (Letter b) = b ∷ []
lead_bytes (Number n) = decimal n

abbrev pub tail_bytes : Option ℕ → List ℕ
tail_bytes None = []
tail_bytes (Some b) = 44 ∷ (b ∷ [])

-- a line: a letter or a number, then numbers, each after a comma, then perhaps a comma and a letter, and a line feed
abbrev pub line_of : Lead → List ℕ → Option ℕ → List ℕ
line_of lead numbers tail = ((lead_bytes lead ++ after_commas numbers) ++ tail_bytes tail) ++ (10 ∷ [])

-- a refusal: its number, the numbers that it names, and for a bad line the cause's letter
abbrev pub cause_in : Refusal → Option ℕ
cause_in NoCrew = None
cause_in NoCell = None
cause_in JobOpen = None
cause_in NoJob = None
cause_in PlacesSpent = None
cause_in BookFull = None
cause_in (Stale p) = None
cause_in (NoPlace p) = None
cause_in (WrongTable t) = None
cause_in Damaged = None
cause_in (BadLine b) = Some (cause_letter b.at.cause)
cause_in PaperFull = None
cause_in BadSize = None
cause_in NotFilled = None

abbrev pub refusal_line : Refusal → List ℕ
refusal_line e = line_of (Number (number_of e)) (values_of e) (cause_in e)

-- a cell's value: V and its fields
abbrev pub value_line : {V : Type 0} → Form V → V → List ℕ
value_line form v = line_of (Letter 86) (form.fields v) None

-- `12` and a line feed
abbrev pub stop_line : List ℕ
stop_line = 49 ∷ (50 ∷ (10 ∷ []))
