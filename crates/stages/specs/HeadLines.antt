-- What a head line says.
use Rattle.std.specs.Prelude.{ℕ, zero, suc, cond, ◌&&◌, List, Ok, Err, Result, nat_le}
use Rattle.terms.specs.declared.refusals.BadField.{BadField}
use Rattle.terms.specs.declared.refusals.Cause.TheVariants.{NoNumber, OutOfRange}
use Rattle.text.specs.Numbers.{number_in}
use Rattle.text.specs.Split.{before, after}
use Rattle.values.specs.Forms.{is_number}
use Rattle.stages.specs.declared.head_line.KindName.{KindName}
use Rattle.stages.specs.declared.head_line.KindName.TheVariants.{Card, Dial}
use Rattle.stages.specs.declared.head_line.HeadLine.{HeadLine}
use Rattle.stages.specs.Stages.{letter_of, is_letter}

-- goes on with what was read, or keeps the bad field
abbrev pub and_then : {A B : Type 0} → Result A BadField → (A → Result B BadField) → Result B BadField
and_then (Ok x) next = next x
and_then (Err bad) next = Err bad

-- a line without its first k fields
abbrev pub without_fields : ℕ → List ℕ → List ℕ
without_fields zero line = line
without_fields (suc k) line = without_fields k (after 44 line)

-- a line's field number k, counted from 1
abbrev pub field : ℕ → List ℕ → List ℕ
field zero line = before 44 line
field (suc k) line = before 44 (without_fields k line)

-- C for cards, D for dials; any other letter is bad at field 2
abbrev pub kind_in : List ℕ → Result KindName BadField
kind_in bs = cond (is_letter 67 (letter_of bs)) (Ok Card) (cond (is_letter 68 (letter_of bs)) (Ok Dial) (Err (record { field = 2; cause = NoNumber })))

-- a size in field `at`: a number from 1 to `most`
abbrev pub size_in : ℕ → ℕ → List ℕ → Result ℕ BadField
size_in at most bs = is_number at (number_in bs) (λ n. cond (nat_le 1 n && nat_le n most) (Ok n) (Err (record { field = at; cause = OutOfRange })))

-- R,kind,n,m,b: 1 to 64 cells, 1 to 8 crews, 1 to 256 book entries; the fields are tested from left to right
abbrev pub read_head : List ℕ → Result HeadLine BadField
read_head line =
    and_then (kind_in (field 2 line)) (λ k.
    and_then (size_in 3 64 (field 3 line)) (λ n.
    and_then (size_in 4 8 (field 4 line)) (λ m.
    and_then (size_in 5 256 (field 5 line)) (λ b.
    Ok (record { kind = k; cells = n; crews = m; entries = b })))))
