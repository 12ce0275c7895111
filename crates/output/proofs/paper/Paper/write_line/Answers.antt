use Rattle.std.proofs.Common.{[], ◌∷◌}
use Rattle.std.proofs.lemmas.Result.{err_from_is_err_and}
use Rattle.output.specs.Lines.{tail_bytes}
use Rattle.output.proofs.Lent.{piece_then, piece_stop, line_stands, line_goes_back}
use Rattle.output.proofs.paper.Paper.write_line.Goals as goal

pub returns-in_err-put_fields : goal.returns-in_err-put_fields
returns-in_err-put_fields c =
    let p = err_from_is_err_and c.from_residual-in_err-put_fields.result c.from_residual-in_err-put_fields.ensures.1 in
    let d = piece_then _ _ _ _ _ _ c.in_ok-put_lead.ensures c.in_err-put_fields.ensures in
    rw (p.1, p.2) (line_goes_back _ _ _ _ _ (piece_stop _ (10 ∷ []) _ _ _ (piece_stop _ (tail_bytes c.args.tail) _ _ _ d)) c.drop-line-in_err-put_fields.ensures)

pub returns-in_err-put_tail : goal.returns-in_err-put_tail
returns-in_err-put_tail c =
    let p = err_from_is_err_and c.from_residual-in_err-put_tail.result c.from_residual-in_err-put_tail.ensures.1 in
    let d = piece_then _ _ _ _ _ _ (piece_then _ _ _ _ _ _ c.in_ok-put_lead.ensures c.in_ok-put_fields.ensures) c.in_err-put_tail.ensures in
    rw (p.1, p.2) (line_goes_back _ _ _ _ _ (piece_stop _ (10 ∷ []) _ _ _ d) c.drop-line-in_err-put_tail.ensures)

pub returns-in_err-put : goal.returns-in_err-put
returns-in_err-put c =
    let p = err_from_is_err_and c.from_residual-in_err-put.result c.from_residual-in_err-put.ensures.1 in
    let d = piece_then _ _ _ _ _ _ (piece_then _ _ _ _ _ _ c.in_ok-put_lead.ensures c.in_ok-put_fields.ensures) c.in_ok-put_tail.ensures in
    rw (p.1, p.2) (line_goes_back _ _ _ _ _ (piece_then _ _ _ _ _ _ d c.in_err-put.ensures) c.drop-line-in_err-put.ensures)

pub returns : goal.returns
returns c =
    let d = piece_then _ _ _ _ _ _ (piece_then _ _ _ _ _ _ c.in_ok-put_lead.ensures c.in_ok-put_fields.ensures) c.in_ok-put_tail.ensures in
    rw c.drop-line-2.ensures (line_stands _ _ _ (piece_then _ _ _ _ _ _ d c.in_ok-put.ensures))
