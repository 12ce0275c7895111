use Rattle.output.proofs.Lent.{piece_then}
use Rattle.output.proofs.paper.Paper.put_field.Goals as goal

pub returns : goal.returns
returns c = piece_then _ _ _ _ _ _ c.in_ok-put.ensures c.put_digits.ensures
