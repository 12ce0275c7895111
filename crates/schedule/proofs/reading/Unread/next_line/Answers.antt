use Rattle.std.proofs.Common.{rules, ◌^◌, sym, refl, ◌∙◌}
use Rattle.std.proofs.lemmas.Result.{err_from_is_err_and}
use Rattle.schedule.proofs.Nexts.{begins, lines_still_fit, told, takes, refuses}
use Rattle.schedule.proofs.reading.Unread.next_line.Goals as goal

pub returns-in_err-map_err : goal.returns-in_err-map_err
returns-in_err-map_err c =
    let p = err_from_is_err_and c.from_residual.result c.from_residual.ensures.1 in
    let split = begins c.args.self.now.text.now c.read_line.result.0.now c.read_line.result.1.now (sym c.if-is_empty.ensures) c.read_line.ensures.line c.read_line.ensures.rest in
    let t = told c.args.self.now.number c.take.result c.map_err.result _ c.map_err.ensures.cases (λ at bad h. search rules) in
    rw (p.1, p.2) (refuses c.args.self.now.number c.args.self.now.reader c.take.new.self c.args.self.now.text.now c.read_line.result.0.now c.read_line.result.1.now c.shape_of.result c.take.result c.in_err-map_err.field-0.0
    c.shape_of.ensures split c.take.ensures (sym c.in_err-map_err.was ∙ t))

pub returns : goal.returns
returns c =
    let split = begins c.args.self.now.text.now c.read_line.result.0.now c.read_line.result.1.now (sym c.if-is_empty.ensures) c.read_line.ensures.line c.read_line.ensures.rest in
    let t = told c.args.self.now.number c.take.result c.map_err.result _ c.map_err.ensures.cases (λ at bad h. search rules) in
    let taken = takes c.args.self.now.number c.args.self.now.reader c.take.new.self c.read_line.result.0.now c.shape_of.result c.take.result c.shape_of.ensures c.take.ensures (sym c.in_ok-map_err.was ∙ t) in
    (split, taken.0, (taken.1, refl))

pub invariant_of-self-2 : goal.invariant_of-self-2
invariant_of-self-2 c =
    record { lines_fit = lines_still_fit c.args.self.now.number (2 ^ 63) c.args.self.now.text.now c.read_line.result.1.now (sym c.if-is_empty.ensures) c.read_line.ensures.rest c.args.self.now.lines_fit }
