-- The account of a schedule: the lines that are printed for its bytes.
use Rattle.std.specs.Prelude.{ℕ, zero, suc, ◌+◌, cond, List, [], ◌∷◌, ◌++◌, map, length, Some, None, Ok, Err, Option, Result, nat_lt}
use Rattle.terms.specs.declared.refusals.BadField.{BadField}
use Rattle.terms.specs.declared.refusals.BadLine.{BadLine}
use Rattle.terms.specs.declared.refusals.Cause.TheVariants.{WrongLetter}
use Rattle.terms.specs.declared.refusals.Refusal.TheVariants as refusal
use Rattle.text.specs.Split.{after, lines_of}
use Rattle.values.specs.Forms.{Form, read_value}
use Rattle.values.specs.Kinds.{card_form, dial_form}
use Rattle.output.specs.Lines.{refusal_line, value_line}
use Rattle.output.specs.Papers.{printed}
use Rattle.stages.specs.declared.stage.Stage.{Stage}
use Rattle.stages.specs.declared.stage.Stage.TheVariants.{Head, Chooser, Cells}
use Rattle.stages.specs.declared.head_line.KindName.{KindName}
use Rattle.stages.specs.declared.head_line.KindName.TheVariants.{Card, Dial}
use Rattle.stages.specs.declared.head_line.HeadLine.{HeadLine}
use Rattle.stages.specs.Stages.{shape_of, bad_shape}
use Rattle.stages.specs.HeadLines.{read_head}
use Rattle.stages.specs.ChooserLines.{read_chooser}

abbrev pub Lines : Type 0
Lines = List (List ℕ)

-- the cause for which a line is bad that is missing, or whose first letter is wrong
abbrev pub wrong_letter : BadField
wrong_letter = record { field = 1; cause = WrongLetter }

-- `11,line,field,cause`; nothing follows it
abbrev pub bad_line : BadLine → Lines
bad_line bad = refusal_line (refusal.BadLine bad) ∷ []

abbrev pub at_line : ℕ → Option BadField → Option BadLine
at_line k None = None
at_line k (Some bad) = Some (record { line = k; at = bad })

-- why line k, the next one, is bad before its fields are read: it is missing, or may not stand at this stage
abbrev pub bad_next : ℕ → Stage → ℕ → Lines → Option BadLine
bad_next k stage width [] = Some (record { line = k; at = wrong_letter })
bad_next k stage width (l ∷ ls) = at_line k (bad_shape stage width (shape_of l))

-- a line's fields are read only where the line may stand at its stage
abbrev pub fits : {A : Type 0} → Option BadField → Result A BadField → Result A BadField
fits None read = read
fits (Some bad) read = Err bad

-- goes on with what line k says, or ends with the bad line
abbrev pub goes_on : {A : Type 0} → ℕ → Result A BadField → (A → Lines) → Lines
goes_on k (Ok a) next = next a
goes_on k (Err bad) next = bad_line (record { line = k; at = bad })

-- a stage that wants line k: reads it and goes on with the lines after it; a missing line is bad
abbrev pub wanted : {A : Type 0} → ℕ → Stage → ℕ → (List ℕ → Result A BadField) → (A → Lines → Lines) → Lines → Lines
wanted k stage width read next [] = bad_line (record { line = k; at = wrong_letter })
wanted k stage width read next (l ∷ ls) = goes_on k (fits (bad_shape stage width (shape_of l)) (read l)) (λ a. next a ls)

-- among the calls no line is allowed yet; after the last line every cell's value is printed
abbrev pub at_calls : {V : Type 0} → Form V → ℕ → List V → Lines → Lines
at_calls form k values [] = map (value_line form) values
at_calls form k values (l ∷ ls) = bad_line (record { line = k; at = wrong_letter })

-- a cell's line: V and the value's fields, from field 2 on
abbrev pub read_cell : {V : Type 0} → Form V → List ℕ → Result V BadField
read_cell form l = read_value form 2 (after 44 l)

-- the cells that are left, from line k on, after the values that were read
abbrev pub at_cells : {V : Type 0} → Form V → ℕ → ℕ → List V → Lines → Lines
at_cells form zero k values ls = at_calls form k values ls
at_cells form (suc left) k values ls = wanted k Cells form.width (read_cell form) (λ v. at_cells form left (k + 1) (values ++ (v ∷ []))) ls

-- the cells begin at line 3
abbrev pub of_kind : KindName → ℕ → Lines → Lines
of_kind Card cells ls = at_cells card_form cells 3 [] ls
of_kind Dial cells ls = at_cells dial_form cells 3 [] ls

-- line 2 names the chooser; no call has asked it for a place yet
abbrev pub at_chooser : HeadLine → Lines → Lines
at_chooser head ls = wanted 2 Chooser 0 (read_chooser 256) (λ choice. of_kind head.kind head.cells) ls

-- line 1 is the head
abbrev pub at_head : Lines → Lines
at_head ls = wanted 1 Head 0 read_head at_chooser ls

-- the lines of a schedule's account: `13` alone for one of over 65,536 bytes
abbrev pub account_lines : List ℕ → Lines
account_lines schedule = cond (nat_lt 65536 (length schedule)) (refusal_line refusal.BadSize ∷ []) (at_head (lines_of schedule))

-- a schedule's account on a paper of so many bytes
abbrev pub account_of : ℕ → List ℕ → List ℕ
account_of size schedule = printed size (account_lines schedule)
