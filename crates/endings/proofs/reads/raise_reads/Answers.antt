use Rattle.std.proofs.Common.{◌≡◌, suc, length, get_or, set, refl, ap, ◌∙◌, arith, rules}
use Rattle.std.proofs.lemmas.List.{length-set}
use Rattle.rules.specs.Registers.{has_read, register_of}
use Rattle.endings.specs.Endings.{with_reads, raised_read}
use Rattle.endings.proofs.Turns.{turn_more, turn_all, changed, kept}
use Rattle.endings.proofs.reads.raise_reads.Goals as goal
use Rattle.endings.proofs.reads.raise_reads.Goals.{then-has_read, else-has_read}

pub loop-i-preserved : goal.loop-i-preserved
loop-i-preserved g c =
    let a = register_of _ c.args.head.now c.loop-i.t in
    let told = rw c.new.ensures at c.has_read.ensures in
    let step : register_of _ c.args.head.now c.if-has_read.t ≡ with_reads a (set c.loop-i.t.read.now c.loop-i.i (raised_read c.args.crew.number c.args.place.0 a (suc c.loop-i.i) (get_or c.loop-i.t.read.now c.loop-i.i 0))) = elim c.if-has_read.branch [
      | then-has_read w ↦ ap (register_of _ c.args.head.now) w.t-is ∙ (ap (λ x. with_reads a (set c.loop-i.t.read.now c.loop-i.i x)) w.max.ensures ∙ changed (with_reads a) (has_read a c.args.crew.number) c.loop-i.i _ told _ _ 0 w.if-has_read.true)
      | else-has_read w ↦ ap (register_of _ c.args.head.now) w.t-is ∙ kept (with_reads a) (has_read a c.args.crew.number) c.loop-i.i _ told _ _ 0 w.if-has_read.false
    ] in (
      search rules,
      ap (λ r. length r.tables.read) step ∙ length-set _ _ _ ∙ c.loop-i.invariant.1,
      turn_more with_reads (λ r. r.tables.read) (raised_read c.args.crew.number c.args.place.0) 0 (register_of _ c.args.head.now c.args.t.now) a (register_of _ c.args.head.now c.if-has_read.t) c.loop-i.i c.loop-i.invariant.2 (λ xs q. refl) step,
    )

pub returns-clause-step : goal.returns-clause-step
returns-clause-step g c = turn_all with_reads (λ r. r.tables.read) (raised_read c.args.crew.number c.args.place.0) 0 (register_of _ c.args.head.now c.args.t.now) (register_of _ c.args.head.now c.loop-i.t) (register_of _ c.args.head.now c.loop-i.t) c.loop-i.i c.loop-i.invariant.2 (omega arith)
