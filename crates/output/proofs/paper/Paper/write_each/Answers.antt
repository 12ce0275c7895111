use Rattle.std.proofs.Common.{arith}
use Rattle.std.proofs.lemmas.Result.{err_from_is_err_and}
use Rattle.output.proofs.Lent.{next_line, last_line, all_lines}
use Rattle.output.proofs.paper.Paper.write_each.Goals as goal

pub returns-in_err-write : goal.returns-in_err-write
returns-in_err-write g c line w =
    let p = err_from_is_err_and c.from_residual.result c.from_residual.ensures.1 in
    rw (p.1, p.2) (last_line line c.args.items.now c.loop-item.item-index c.item-item.result _ _ _ _
    c.loop-item-test.true c.item-item.is (c.loop-item.invariant line w) (w _ _ _ _ (c.in_err-write.ensures)))

pub loop-item-preserved : goal.loop-item-preserved
loop-item-preserved g c line w =
    next_line line c.args.items.now c.loop-item.item-index c.item-item.result _ _ _ _
    c.loop-item-test.true c.item-item.is (c.loop-item.invariant line w) (w _ _ _ _ (c.in_ok-write.ensures))

pub returns : goal.returns
returns g c line w = all_lines line c.args.items.now c.loop-item.item-index _ _ _ (omega arith) (c.loop-item.invariant line w)
