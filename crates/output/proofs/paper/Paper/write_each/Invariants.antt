use Rattle.std.proofs.Common.{ℕ, List, map, take, Ok}
use Rattle.output.specs.Lent.{LinesWritten, WritesLine}
use Rattle.output.proofs.paper.Paper.write_each.Given as goal

-- the lines of the first items are written
abbrev pub invariant-loop-item : goal.invariant-loop-item
invariant-loop-item g l =
    (line : _ → List ℕ) → WritesLine (goal.F-post g l.write) line → LinesWritten (map line (take l.item-index l.items)) l.initial.self (Ok tt) l.self
