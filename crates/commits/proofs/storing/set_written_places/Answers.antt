use Rattle.std.proofs.Common.{◌≡◌, suc, length, get_or, set, refl, ap, ◌∙◌, arith, rules}
use Rattle.std.proofs.lemmas.List.{length-set}
use Rattle.rules.specs.Registers.{has_written, register_of}
use Rattle.endings.proofs.Turns.{turn_more, turn_all, changed, kept}
use Rattle.commits.specs.Committing.{with_written_places, written_place}
use Rattle.commits.proofs.storing.set_written_places.Goals as goal
use Rattle.commits.proofs.storing.set_written_places.Goals.{then-has_written, else-has_written}

pub loop-i-preserved : goal.loop-i-preserved
loop-i-preserved g c =
    let a = register_of _ c.args.head.now c.loop-i.t in
    let told = rw c.new.ensures at c.has_written.ensures in
    let step : register_of _ c.args.head.now c.if-has_written.t ≡ with_written_places a (set c.loop-i.t.written.now c.loop-i.i (written_place c.args.crew.number c.args.place.0 a (suc c.loop-i.i) (get_or c.loop-i.t.written.now c.loop-i.i 0))) = elim c.if-has_written.branch [
      | then-has_written w ↦ ap (register_of _ c.args.head.now) w.t-is ∙ changed (with_written_places a) (has_written a c.args.crew.number) c.loop-i.i _ told _ _ 0 w.if-has_written.true
      | else-has_written w ↦ ap (register_of _ c.args.head.now) w.t-is ∙ kept (with_written_places a) (has_written a c.args.crew.number) c.loop-i.i _ told _ _ 0 w.if-has_written.false
    ] in (
      search rules,
      ap (λ r. length r.tables.written) step ∙ length-set _ _ _ ∙ c.loop-i.invariant.1,
      turn_more with_written_places (λ r. r.tables.written) (written_place c.args.crew.number c.args.place.0) 0 (register_of _ c.args.head.now c.args.t.now) a (register_of _ c.args.head.now c.if-has_written.t) c.loop-i.i c.loop-i.invariant.2 (λ xs q. refl) step,
    )

pub returns-clause-step : goal.returns-clause-step
returns-clause-step g c = turn_all with_written_places (λ r. r.tables.written) (written_place c.args.crew.number c.args.place.0) 0 (register_of _ c.args.head.now c.args.t.now) (register_of _ c.args.head.now c.loop-i.t) (register_of _ c.args.head.now c.loop-i.t) c.loop-i.i c.loop-i.invariant.2 (omega arith)
