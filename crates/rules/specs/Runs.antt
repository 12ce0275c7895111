-- Job calls made one after the other. The newest call stands first.
use Rattle.std.specs.Prelude.{List, [], ◌∷◌, Err, Result}
use Rattle.terms.specs.declared.refusals.TableName.{TableName}
use Rattle.terms.specs.declared.refusals.Refusal.{Refusal}
use Rattle.terms.specs.declared.refusals.Refusal.TheVariants.{WrongTable}
use Rattle.choosers.specs.Meaning.{Meaning}
use Rattle.rules.specs.declared.calls.Call.{Call}
use Rattle.rules.specs.declared.calls.Answer.{Answer}
use Rattle.rules.specs.Registers.{Register}
use Rattle.rules.specs.Performing.{Performs}

-- a call with its answer
abbrev pub Step : Type 0 → Type 0
Step V = Call V × Result (Answer V) Refusal

-- the calls of the log were performed on the register s, with a chooser that meant f₀ at first, and left the register r and the meaning f:
-- each call was handed head, tables and chooser as the one before it left them
pub data Performed {V : Type 0} (d : V) (s : Register V) (f₀ : Meaning) : List (Step V) → Register V → Meaning → Type 0 where
  starts : Performed d s f₀ [] s f₀
  then : {log : List (Step V)} {r : Register V} {f : Meaning} {k : Call V} {a : Result (Answer V) Refusal} {r' : Register V} {f' : Meaning}
      → Performed d s f₀ log r f → Performs d r f k a r' f' → Performed d s f₀ ((k, a) ∷ log) r' f'

-- a run: the same, but a call may have been handed some other table instead; it was answered so, and is passed over
pub data Run {V : Type 0} (d : V) (s : Register V) (f₀ : Meaning) : List (Step V) → Register V → Meaning → Type 0 where
  starts : Run d s f₀ [] s f₀
  then : {log : List (Step V)} {r : Register V} {f : Meaning} {k : Call V} {a : Result (Answer V) Refusal} {r' : Register V} {f' : Meaning}
      → Run d s f₀ log r f → Performs d r f k a r' f' → Run d s f₀ ((k, a) ∷ log) r' f'
  passed_over : {log : List (Step V)} {r : Register V} {f : Meaning} {k : Call V} {table : TableName}
      → Run d s f₀ log r f → Run d s f₀ ((k, Err (WrongTable table)) ∷ log) r f
