use Rattle.std.proofs.Common.{◌≡◌, suc, length, get_or, set, sym, refl, ap, ◌∙◌, add-one, arith, rules}
use Rattle.std.proofs.lemmas.List.{get_or_default, set_past}
use Rattle.rules.specs.Tables.{spot}
use Rattle.rules.specs.Registers.{has_written, register_of}
use Rattle.endings.proofs.Turns.{turn_more, turn_all, changed, kept}
use Rattle.commits.specs.Committing.{with_values, stored_value}
use Rattle.commits.proofs.storing.store_values.Goals as goal
use Rattle.commits.proofs.storing.store_values.Goals.{then-has_written+then-own-t+then-i-t, else-has_written, else-has_written-via-then-has_written+then-own-t+else-i-t, else-has_written-via-then-has_written+else-own-t, else-has_written-via-else-has_written}

pub loop-i-preserved : goal.loop-i-preserved
loop-i-preserved g c = (
  search rules,
  λ fits crew d.
      let a = register_of _ c.args.head.now c.loop-i.t in
      let told = rw c.new.ensures at c.has_written.ensures in
      let so_far = c.loop-i.invariant.1 fits crew d in
      let own-long = ap (λ r. length r.tables.own) so_far in
      let step : register_of _ c.args.head.now c.if-has_written.t ≡ with_values a (set c.loop-i.t.values.now c.loop-i.i (stored_value d c.args.crew.number a (suc c.loop-i.i) (get_or c.loop-i.t.values.now c.loop-i.i d))) = elim c.if-has_written.branch [
        | then-has_written+then-own-t+then-i-t w ↦
            let own = get_or_default c.loop-i.t.own.now c.spot-own.result w.index-t-own.result d w.if-own-t.true ∙ ap (λ k. get_or c.loop-i.t.own.now k d) (c.spot-own.ensures.is ∙ ap (spot c.args.head.now.sizes.cells c.args.crew.number) (add-one c.loop-i.i)) in
            ap (register_of _ c.args.head.now) w.t-is ∙ (ap (λ x. with_values a (set c.loop-i.t.values.now c.loop-i.i x)) own ∙ changed (with_values a) (has_written a c.args.crew.number) c.loop-i.i _ told _ _ d w.if-has_written.true)
        | else-has_written w ↦ ap (register_of _ c.args.head.now) w.t-is ∙ elim w.else-has_written.branch [
          | else-has_written-via-then-has_written+then-own-t+else-i-t v ↦ ap (with_values a) (sym (set_past _ _ _ v.if-i-t.false))
          | else-has_written-via-then-has_written+else-own-t v ↦ absurd (omega (arith, v.if-own-t.false, own-long, fits.own, c.spot-own.ensures.within crew (omega arith)))
          | else-has_written-via-else-has_written v ↦ kept (with_values a) (has_written a c.args.crew.number) c.loop-i.i _ told _ _ d v.if-has_written.false
        ]
      ] in
      turn_more with_values (λ r. r.tables.values) (stored_value d c.args.crew.number) d (register_of _ c.args.head.now c.args.t.now) a (register_of _ c.args.head.now c.if-has_written.t) c.loop-i.i so_far (λ xs q. refl) step,
)

pub returns-clause-step : goal.returns-clause-step
returns-clause-step g c = λ fits crew d. turn_all with_values (λ r. r.tables.values) (stored_value d c.args.crew.number) d (register_of _ c.args.head.now c.args.t.now) (register_of _ c.args.head.now c.loop-i.t) (register_of _ c.args.head.now c.loop-i.t) c.loop-i.i (c.loop-i.invariant.1 fits crew d) (omega (arith, fits.values))
