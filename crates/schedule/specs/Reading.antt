-- The next line of a schedule, read by a reader of its fields.
use Rattle.std.specs.Prelude.{◌≡◌, ℕ, ◌+◌, List, Ok, Err, Result}
use Rattle.terms.specs.declared.refusals.BadField.{BadField}
use Rattle.terms.specs.declared.refusals.BadLine.{BadLine}
use Rattle.text.specs.Split.{lines_of}
use Rattle.stages.specs.Stages.{moved_on}
use Rattle.schedule.specs.declared.reading.Unread.{Unread}
use Rattle.schedule.specs.Accounts.{Lines, bad_line, wanted}

-- after a line that was taken: the number of the next one, and the reader that took it
abbrev pub MovedOn : Unread → Unread → Type 0
MovedOn old new = (new.reader ≡ moved_on old.reader.stage old.reader.left old.reader.width) × (new.number ≡ old.number + 1)

-- of every line, `gives` allows only what `wants` gives
abbrev pub Reads : {A : Type 0} → (List ℕ → Result A BadField → Type 0) → (List ℕ → Result A BadField) → Type 0
Reads {A} gives wants = (l : List ℕ) (r : Result A BadField) → gives l r → r ≡ wants l

-- goes on with what was read, or ends with the bad line
abbrev pub went_on : {A : Type 0} → Result A BadLine → (A → Lines) → Lines
went_on (Ok a) next = next a
went_on (Err bad) next = bad_line bad

-- the next line was read as a stage reads it that wants it
abbrev pub ReadsWanted : {A : Type 0} → (List ℕ → Result A BadField → Type 0) → Unread → Result A BadLine → Unread → Type 0
ReadsWanted {A} gives old r new =
    (wants : List ℕ → Result A BadField) → Reads gives wants → (next : A → Lines → Lines)
    → wanted old.number old.reader.stage old.reader.width wants next (lines_of old.text.now) ≡ went_on r (λ a. next a (lines_of new.text.now))
