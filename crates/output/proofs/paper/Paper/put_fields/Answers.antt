use Rattle.std.proofs.Common.{arith}
use Rattle.std.proofs.lemmas.Result.{err_from_is_err_and}
use Rattle.output.proofs.Lent.{piece_none}
use Rattle.output.proofs.Commas.{one_more_field, last_field}
use Rattle.output.proofs.paper.Paper.put_fields.Goals as goal

pub loop-n-init : goal.loop-n-init
loop-n-init c = piece_none c.args.self.now c.requires

pub loop-n-preserved : goal.loop-n-preserved
loop-n-preserved c = one_more_field c.args.numbers.now c.loop-n.n-index _ _ _ _ (omega arith) c.loop-n.invariant c.in_ok-put_field.ensures

pub returns-in_err-put_field : goal.returns-in_err-put_field
returns-in_err-put_field c =
    let p = err_from_is_err_and c.from_residual.result c.from_residual.ensures.1 in
    rw (p.1, p.2) (last_field c.args.numbers.now c.loop-n.n-index _ _ _ _ (omega arith) c.loop-n.invariant c.in_err-put_field.ensures)
