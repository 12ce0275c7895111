-- What a chooser line says.
use Rattle.std.specs.Prelude.{ℕ, zero, suc, ◌+◌, cond, ◌&&◌, List, [], ◌∷◌, ◌++◌, take, Ok, Err, Result, nat_le}
use Rattle.terms.specs.declared.refusals.BadField.{BadField}
use Rattle.terms.specs.declared.refusals.Cause.TheVariants.{WrongCount, NoNumber, OutOfRange}
use Rattle.text.specs.Numbers.{number_in}
use Rattle.text.specs.Split.{before, after, field_count}
use Rattle.values.specs.Forms.{is_number}
use Rattle.choosers.specs.declared.stride.Stride.{Stride}
use Rattle.choosers.specs.Stride.{step_in_range}
use Rattle.stages.specs.declared.chooser_line.ChooserLine.{ChooserLine}
use Rattle.stages.specs.declared.chooser_line.ChooserLine.TheVariants as line
use Rattle.stages.specs.Stages.{letter_of, is_letter}
use Rattle.stages.specs.HeadLines.{and_then, without_fields, field}

-- a chooser as a line names it: a stride, or a script of numbers
pub data Choice : Type 0 where
  stride : ℕ → Choice
  script : List ℕ → Choice

-- the stride in field 3: a number in the stride's range
abbrev pub stride_in : List ℕ → Result ℕ BadField
stride_in rest = is_number 3 (number_in (before 44 rest)) (λ step. cond (step_in_range step) (Ok step) (Err (record { field = 3; cause = OutOfRange })))

-- numbers from field `at` on, after those that were got
abbrev pub numbers_from : List ℕ → ℕ → ℕ → List ℕ → Result (List ℕ) BadField
numbers_from got zero at rest = Ok got
numbers_from got (suc left) at rest = is_number at (number_in (before 44 rest)) (λ x. numbers_from (got ++ (x ∷ [])) left (at + 1) (after 44 rest))

-- the script's numbers, from field 3 on: at most 256, and no more than there is room for
abbrev pub numbers_in : ℕ → List ℕ → Result (List ℕ) BadField
numbers_in room rest =
    cond (nat_le (field_count rest) 256 && nat_le (field_count rest) room) (numbers_from [] (field_count rest) 3 rest) (Err (record { field = 1; cause = WrongCount }))

-- P,S,stride or P,X,numbers; any other letter is bad at field 2
abbrev pub read_chooser : ℕ → List ℕ → Result Choice BadField
read_chooser room l =
    cond (is_letter 83 (letter_of (field 2 l))) (and_then (stride_in (without_fields 2 l)) (λ step. Ok (stride step)))
    (cond (is_letter 88 (letter_of (field 2 l))) (and_then (numbers_in room (without_fields 2 l)) (λ xs. Ok (script xs)))
    (Err (record { field = 2; cause = NoNumber })))

---- What the code answers, as above: a stride by its step, and a script by its numbers in the lent list

abbrev pub stride_of : Result Stride BadField → Result ℕ BadField
stride_of (Ok s) = Ok s.step
stride_of (Err bad) = Err bad

abbrev pub numbers_of : Result ℕ BadField → List ℕ → Result (List ℕ) BadField
numbers_of (Ok count) numbers = Ok (take count numbers)
numbers_of (Err bad) numbers = Err bad

abbrev pub choice_of : Result ChooserLine BadField → List ℕ → Result Choice BadField
choice_of (Ok (line.Stride s)) numbers = Ok (stride s.step)
choice_of (Ok (line.Script count)) numbers = Ok (script (take count numbers))
choice_of (Err bad) numbers = Err bad
