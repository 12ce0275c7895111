use Rattle.std.proofs.Common.{sym}
use Rattle.std.proofs.lemmas.Result.{err_from_is_err_and}
use Rattle.schedule.proofs.Nexts.{calls_bad}
use Rattle.schedule.proofs.making.read_calls.Goals as goal

pub returns-in_err-next_line : goal.returns-in_err-next_line
returns-in_err-next_line g c =
    let p = err_from_is_err_and c.from_residual.result c.from_residual.ensures.1 in
    rw (p.1, p.2) (calls_bad g.K.Kind.form c.args.unread.now.number c.args.unread.now.reader c.args.unread.now.text.now c.in_err-next_line.field-0.0 c.requires (sym c.if-is_empty.ensures) c.in_err-next_line.ensures)
