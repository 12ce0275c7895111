use Rattle.std.proofs.Common.{◌-◌, get_or, sym, ◌∙◌, arith, rules}
use Rattle.std.proofs.lemmas.List.{at_drop_all}
use Rattle.text.specs.Numbers.{digits_after}
use Rattle.text.proofs.Reading.{read_more, read_stop, more_lt, more_fits, in_bounds}
use Rattle.text.proofs.number.Goals as goal

pub returns-then-not-is_ascii_digit : goal.returns-then-not-is_ascii_digit
returns-then-not-is_ascii_digit c =
    sym (in_bounds c.args.field.now (omega arith) (omega arith) ∙ sym c.loop-b.invariant.0
    ∙ read_stop c.args.field.now c.loop-b.b-index c.loop-b.n c.loop-b-test.true (sym c.is_ascii_digit.ensures.value ∙ c.if-not-is_ascii_digit.true))

pub overflow_mul-n : goal.overflow_mul-n
overflow_mul-n c = omega (arith, more_fits c.loop-b.n c.loop-b.b-index 0 c.loop-b.invariant.1 (omega arith) (omega arith))

pub overflow_add-n : goal.overflow_add-n
overflow_add-n c = omega (arith, more_fits c.loop-b.n c.loop-b.b-index (get_or c.args.field.now c.loop-b.b-index 0 - 48) c.loop-b.invariant.1 (omega arith) (search rules))

pub loop-b-preserved : goal.loop-b-preserved
loop-b-preserved c = (
  sym (read_more c.args.field.now c.loop-b.b-index c.loop-b.n c.loop-b-test.true (sym c.is_ascii_digit.ensures.value ∙ c.if-not-is_ascii_digit.false)) ∙ c.loop-b.invariant.0,
  more_lt c.loop-b.n c.loop-b.b-index _ c.loop-b.invariant.1 (search rules),
)

pub returns : goal.returns
returns c =
    sym (in_bounds c.args.field.now (search rules) (omega arith) ∙ sym c.loop-b.invariant.0
    ∙ at_drop_all (digits_after c.loop-b.n) c.args.field.now c.loop-b.b-index (omega arith))
