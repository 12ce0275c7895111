-- A list of calls with their answers, as the log of a run, which has the newest first.
use Rattle.std.specs.Prelude.{List, [], ◌∷◌, ◌++◌}
use Rattle.rules.specs.declared.calls.Call.{Call}
use Rattle.rules.specs.Runs.{Step}
use Rattle.runs.specs.declared.exchange.Exchange.{Exchange}

abbrev pub calls_of : {V : Type 0} → List (Exchange V) → List (Call V)
calls_of [] = []
calls_of (e ∷ es) = e.call ∷ calls_of es

abbrev pub log_of : {V : Type 0} → List (Exchange V) → List (Step V)
log_of [] = []
log_of (e ∷ es) = log_of es ++ ((e.call, e.answer) ∷ [])
