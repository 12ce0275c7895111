use Rattle.std.proofs.Common.{◌≡◌, take}
use Rattle.rules.specs.Contents.{Same}
use Rattle.rules.specs.Registers.{register_of}
use Rattle.rules.specs.Runs.{Performed}
use Rattle.runs.specs.Logs.{calls_of, log_of}
use Rattle.runs.proofs.running.run.Given as goal

-- the first calls were performed
abbrev pub invariant-loop-exchange : goal.invariant-loop-exchange
invariant-loop-exchange g l =
    ((d : g.row.V.Denot) → Performed d (register_of _ l.initial.head l.initial.t) (g.C.Chooser.meaning l.initial.chooser) (log_of (take l.exchange-index l.list)) (register_of _ l.head l.t) (g.C.Chooser.meaning l.chooser))
    × Same _ l.t l.initial.t
    × (calls_of l.list ≡ calls_of l.initial.list)
