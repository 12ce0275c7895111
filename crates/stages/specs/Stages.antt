-- The stages of a schedule, and which lines may stand at each.
use Rattle.std.specs.Prelude.{ℕ, ◌+◌, ◌-◌, Bool, true, false, cond, ◌&&◌, List, length, Some, None, Ok, Err, Option, Result, ◌==◌, nat_le, slice_index}
use Rattle.terms.specs.declared.refusals.BadField.{BadField}
use Rattle.terms.specs.declared.refusals.Cause.TheVariants.{WrongLetter, WrongCount}
use Rattle.text.specs.Split.{before, after, field_count}
use Rattle.stages.specs.declared.stage.Stage.{Stage}
use Rattle.stages.specs.declared.stage.Stage.TheVariants.{Head, Chooser, Cells, Calls}
use Rattle.stages.specs.declared.stage.Shape.{Shape}
use Rattle.stages.specs.declared.stage.Reader.{Reader}

-- a field of one byte has it for a letter, and any other field has none
abbrev pub letter_of : List ℕ → Option ℕ
letter_of bs = cond (length bs == 1) (Some (slice_index bs 0)) None

abbrev pub shape_of : List ℕ → Shape
shape_of line = record { letter = letter_of (before 44 line); second = letter_of (before 44 (after 44 line)); fields = field_count line }

abbrev pub is_letter : ℕ → Option ℕ → Bool
is_letter b None = false
is_letter b (Some x) = x == b

-- the first letters: R at the head, P at the chooser, V among the cells, and none yet among the calls
abbrev pub letter_fits : Stage → Option ℕ → Bool
letter_fits Head c = is_letter 82 c
letter_fits Chooser c = is_letter 80 c
letter_fits Cells c = is_letter 86 c
letter_fits Calls c = false

-- a stride has three fields, and a script of 1 to 256 numbers has 3 to 258; under any other letter the count does not
-- matter, since the letter itself is bad, but without a second field there is none
abbrev pub chooser_fits : Option ℕ → ℕ → Bool
chooser_fits second fields = cond (is_letter 83 second) (fields == 3) (cond (is_letter 88 second) (nat_le 3 fields && nat_le fields 258) (nat_le 2 fields))

-- the counts of fields: five at the head, and the letter with a value's fields among the cells
abbrev pub count_fits : Stage → ℕ → Option ℕ → ℕ → Bool
count_fits Head width second fields = fields == 5
count_fits Chooser width second fields = chooser_fits second fields
count_fits Cells width second fields = fields == width + 1
count_fits Calls width second fields = false

-- where the reader stands after a line that it took: past the last cell come the calls
abbrev pub moved_on : Stage → ℕ → ℕ → Reader
moved_on Head left width = record { stage = Chooser; left = left; width = width }
moved_on Chooser left width = record { stage = Cells; left = left; width = width }
moved_on Cells left width = record { stage = cond (nat_le left 1) Calls Cells; left = left - 1; width = width }
moved_on Calls left width = record { stage = Calls; left = left; width = width }

abbrev pub bad_first : Bool → Bool → Option BadField
bad_first false count = Some (record { field = 1; cause = WrongLetter })
bad_first true false = Some (record { field = 1; cause = WrongCount })
bad_first true true = None

-- why a line may not stand at a stage, where a value has so many fields: the first letter is tested before the count
abbrev pub bad_shape : Stage → ℕ → Shape → Option BadField
bad_shape stage width line = bad_first (letter_fits stage line.letter) (count_fits stage width line.second line.fields)

abbrev pub taken_or : Option BadField → Reader → Result (Unit {0}) BadField × Reader
taken_or None r = (Ok tt, moved_on r.stage r.left r.width)
taken_or (Some bad) r = (Err bad, r)

-- the next line, by its shape; a bad line moves nothing
abbrev pub taken : Reader → Shape → Result (Unit {0}) BadField × Reader
taken r line = taken_or (bad_shape r.stage r.width line) r
