-- The lines for the answers of job calls and for the day book.
use Rattle.std.specs.Prelude.{ℕ, List, [], ◌∷◌, Some, None, Ok, Err, Result}
use Rattle.terms.specs.Records.{ending_letter}
use Rattle.terms.specs.declared.records.Entry.{Entry}
use Rattle.terms.specs.declared.refusals.Refusal.{Refusal}
use Rattle.values.specs.Forms.{Form}
use Rattle.rules.specs.declared.calls.Answer.{Answer}
use Rattle.rules.specs.declared.calls.Answer.TheVariants.{Opened, Told, Stored, Ended}
use Rattle.output.specs.declared.lines.Lead.TheVariants.{Letter}
use Rattle.output.specs.Lines.{line_of, refusal_line}

-- what an accepted call is told: the new job's number, the value's fields, nothing, or the place at which the job ended
abbrev pub numbers_told : {V : Type 0} → Form V → Answer V → List ℕ
numbers_told form (Opened job) = job.0 ∷ []
numbers_told form (Told v) = form.fields v
numbers_told form Stored = []
numbers_told form (Ended place) = place.0 ∷ []

-- a job call's answer: `+` and what the call is told, or the line of its refusal
abbrev pub answer_line : {V : Type 0} → Form V → Result (Answer V) Refusal → List ℕ
answer_line form (Ok answer) = line_of (Letter 43) (numbers_told form answer) None
answer_line form (Err e) = refusal_line e

-- an entry of the day book: B, the job, its crew, its place, and the letter of its ending
abbrev pub entry_line : Entry → List ℕ
entry_line e = line_of (Letter 66) (e.job.0 ∷ (e.crew.0 ∷ (e.place.0 ∷ []))) (Some (ending_letter e.ending))
