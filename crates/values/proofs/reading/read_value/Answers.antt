use Rattle.std.proofs.Common.{◌≡◌, ℕ, ◌+◌, ◌-◌, Err, Option, sym, ap, ◌∙◌, arith, rules}
use Rattle.text.specs.Numbers.{number_in}
use Rattle.text.specs.Split.{after}
use Rattle.values.specs.Forms.{read_from, read_value, is_number, in_range}
use Rattle.values.proofs.Steps.{range_step, one_left, no_number, a_number, out_of_range, within_range}
use Rattle.values.proofs.reading.read_value.Given as given
use Rattle.values.proofs.reading.read_value.Goals as goal
use Rattle.values.proofs.reading.read_value.Goals.{After-number, After-with_field}

-- what the whole line gives, by the number that was found in the field
by_number : (g : given.Over) (c : After-number g)
    → is_number (c.args.first + c.loop-i.i) c.number.result (range_step g.K.Kind.form c.args.first g.K.Kind.form.width c.loop-i.i c.loop-i.value c.loop-i.rest.now)
    ≡ read_value g.K.Kind.form c.args.first c.args.line.now
by_number g c =
    ap (λ (o : Option ℕ). is_number (c.args.first + c.loop-i.i) o (range_step g.K.Kind.form c.args.first g.K.Kind.form.width c.loop-i.i c.loop-i.value c.loop-i.rest.now))
    (c.number.ensures ∙ ap number_in c.read_field.ensures.field)
    ∙ sym (one_left g.K.Kind.form c.args.first g.K.Kind.form.width c.loop-i.i c.loop-i.value c.loop-i.rest.now (omega (arith, c.count-i-end.ensures)))
    ∙ c.loop-i.invariant

-- and, once it is a number, by the value that it gives
by_value : (g : given.Over) (c : After-with_field g)
    → is_number (c.args.first + c.loop-i.i) c.number.result (range_step g.K.Kind.form c.args.first g.K.Kind.form.width c.loop-i.i c.loop-i.value c.loop-i.rest.now)
    ≡ read_value g.K.Kind.form c.args.first c.args.line.now
    → in_range (c.args.first + c.loop-i.i) c.with_field.result (λ u. read_from g.K.Kind.form c.args.first (g.K.Kind.form.width - (c.loop-i.i + 1)) (c.loop-i.i + 1) u (after 44 c.loop-i.rest.now))
    ≡ read_value g.K.Kind.form c.args.first c.args.line.now
by_value g c n =
    ap (λ (o : Option _). in_range (c.args.first + c.loop-i.i) o (λ u. read_from g.K.Kind.form c.args.first (g.K.Kind.form.width - (c.loop-i.i + 1)) (c.loop-i.i + 1) u (after 44 c.loop-i.rest.now))) c.with_field.ensures
    ∙ sym (a_number _ c.number.result _ c.in_field.result c.in_ok-x.x c.in_ok-x.ensures.value)
    ∙ n

pub returns-in_err-x : goal.returns-in_err-x
returns-in_err-x g c =
    let r : c.from_residual.result ≡ Err c.in_err-x.field-0.0 = search rules in
    r ∙ sym (no_number _ c.number.result _ c.in_field.result c.in_err-x.field-0.0 c.in_field.ensures c.in_err-x.ensures.value)
    ∙ by_number g (goal.at.returns-in_err-x g c).After-number

pub returns-in_err-value : goal.returns-in_err-value
returns-in_err-value g c =
    let r : c.from_residual-in_err-value.result ≡ Err c.in_err-value.field-0.0 = search rules in
    r ∙ sym (out_of_range _ c.with_field.result _ c.in_field-in-loop-i.result c.in_err-value.field-0.0 c.in_field-in-loop-i.ensures c.in_err-value.ensures.value)
    ∙ by_value g (goal.at.returns-in_err-value g c).After-with_field (by_number g (goal.at.returns-in_err-value g c).After-number)

pub loop-i-preserved : goal.loop-i-preserved
loop-i-preserved g c =
    ap (λ bs. read_from g.K.Kind.form c.args.first (g.K.Kind.form.width - (c.loop-i.i + 1)) (c.loop-i.i + 1) c.in_ok-value.value bs) c.read_field.ensures.rest
    ∙ sym (within_range _ c.with_field.result _ c.in_field-in-loop-i.result c.in_ok-value.value c.in_ok-value.ensures.value)
    ∙ by_value g (goal.at.loop-i-preserved g c).After-with_field (by_number g (goal.at.loop-i-preserved g c).After-number)
