use Rattle.std.proofs.Common.{take, Ok}
use Rattle.values.specs.Forms.{after_commas}
use Rattle.output.specs.Lent.{PieceWritten}
use Rattle.output.proofs.paper.Paper.put_fields.Given as goal

-- the first numbers are written
abbrev pub invariant-loop-n : goal.invariant-loop-n
invariant-loop-n l = PieceWritten (after_commas (take l.n-index l.numbers)) l.initial.self (Ok tt) l.self
