use Rattle.std.proofs.Common.{map, take, Ok}
use Rattle.output.specs.Lent.{LinesWritten}
use Rattle.output.proofs.paper.Paper.write_lines.Given as goal

-- the lines of the first items are written
abbrev pub invariant-loop-item : goal.invariant-loop-item
invariant-loop-item g l = LinesWritten (map (g.W.LineWriter.line l.writer) (take l.item-index l.items)) l.initial.self (Ok tt) l.self
