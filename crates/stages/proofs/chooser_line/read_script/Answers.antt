use Rattle.std.proofs.Common.{◌<◌, take, ◌∙◌, arith, length-take}
use Rattle.std.proofs.lemmas.Result.{err_from_is_err_and}
use Rattle.std.proofs.lemmas.Grind.{common_steps}
use Rattle.stages.proofs.Scripts.{bad_number, one_more}
use Rattle.stages.proofs.chooser_line.read_script.Goals as goal

pub returns-in_err-slot-clause-read : goal.returns-in_err-slot-clause-read
returns-in_err-slot-clause-read c =
    let p = err_from_is_err_and c.from_residual.result c.from_residual.ensures.1 in
    let lt : c.loop-i.i < c.count_fields-count.result = omega (arith, length-take c.count_fields-count.result c.args.numbers.now) in
    let bad = bad_number (take c.loop-i.i c.loop-i.slot-items) c.count_fields-count.result c.loop-i.i c.read_field.result.0.now c.loop-i.rest.now c.read_number.result c.in_err-slot.field-0.0
    lt c.read_field.ensures.field c.read_number.ensures c.in_err-slot.was in
    rw (p.1, p.2) (grind (arith, common_steps, bad))

pub loop-i-preserved : goal.loop-i-preserved
loop-i-preserved c =
    let lt : c.loop-i.i < c.count_fields-count.result = omega (arith, length-take c.count_fields-count.result c.args.numbers.now) in
    one_more c.loop-i.slot-items c.count_fields-count.result c.loop-i.i c.read_field.result.0.now c.loop-i.rest.now c.read_field.result.1.now c.read_number.result c.in_ok-slot.field-0
    lt (omega arith) c.read_field.ensures.field c.read_field.ensures.rest c.read_number.ensures c.in_ok-slot.was
    ∙ c.loop-i.invariant
