-- What a call's line says.
use Rattle.std.specs.Prelude.{ℕ, cond, List, Ok, Err, Option, Result}
use Rattle.terms.specs.declared.numbers.CrewNumber.{CrewNumber}
use Rattle.terms.specs.declared.refusals.BadField.{BadField}
use Rattle.text.specs.Numbers.{number_in}
use Rattle.values.specs.Forms.{Form, is_number, read_value}
use Rattle.rules.specs.declared.calls.Call.{Call}
use Rattle.rules.specs.declared.calls.Call.TheVariants.{Open, Read, Write, Commit, Abandon}
use Rattle.terms.specs.declared.refusals.Cause.TheVariants.{WrongLetter}
use Rattle.stages.specs.Stages.{letter_of, is_letter}
use Rattle.stages.specs.HeadLines.{and_then, without_fields, field}

-- the number in field k of a line; it has no range
abbrev pub number_at : ℕ → List ℕ → Result ℕ BadField
number_at k line = is_number k (number_in (field k line)) (λ n. Ok n)

-- R,crew,cell
abbrev pub read_of : {V : Type 0} → CrewNumber → List ℕ → Result (Call V) BadField
read_of crew line = and_then (number_at 3 line) (λ cell. Ok (Read crew (record { 0 = cell })))

-- W,crew,cell,fields: the value begins at field 4
abbrev pub write_of : {V : Type 0} → Form V → CrewNumber → List ℕ → Result (Call V) BadField
write_of form crew line = and_then (number_at 3 line) (λ cell. and_then (read_value form 4 (without_fields 3 line)) (λ v. Ok (Write crew (record { 0 = cell }) v)))

-- the call of a crew, by the line's letter
abbrev pub call_of : {V : Type 0} → Form V → Option ℕ → CrewNumber → List ℕ → Result (Call V) BadField
call_of form letter crew line =
    cond (is_letter 79 letter) (Ok (Open crew))
    (cond (is_letter 82 letter) (read_of crew line)
    (cond (is_letter 87 letter) (write_of form crew line)
    (cond (is_letter 67 letter) (Ok (Commit crew))
    (cond (is_letter 65 letter) (Ok (Abandon crew))
    (Err (record { field = 1; cause = WrongLetter }))))))

-- O,crew or R,crew,cell or W,crew,cell,fields or C,crew or A,crew; the fields are tested from left to right, and crew and cell have no range
abbrev pub read_call : {V : Type 0} → Form V → List ℕ → Result (Call V) BadField
read_call form line = and_then (number_at 2 line) (λ crew. call_of form (letter_of (field 1 line)) (record { 0 = crew }) line)
