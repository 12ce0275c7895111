use Rattle.std.proofs.Common.{sym, ap}
use Rattle.output.specs.Lines.{tail_bytes}
use Rattle.output.proofs.Lent.{piece_none, piece_as, piece_then}
use Rattle.output.proofs.paper.Paper.put_tail.Goals as goal

pub returns-in_ok-put-in-Some : goal.returns-in_ok-put-in-Some
returns-in_ok-put-in-Some c = piece_as _ _ _ _ _ (ap tail_bytes (sym c.in-Some.is)) (piece_then _ _ _ _ _ _ c.in_ok-put-in-Some.ensures c.put-in-Some.ensures)

pub returns-in-None : goal.returns-in-None
returns-in-None c = piece_as _ _ _ _ _ (ap tail_bytes (sym c.in-None.is)) (piece_none c.args.self.now c.requires)
