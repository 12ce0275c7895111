use Rattle.std.proofs.Common.{◌≡◌, ℕ, suc, ◌+◌, ◌-◌, get_or, set, ap, ◌∙◌, arith, rules}
use Rattle.rules.specs.Contents.{closed_record}
use Rattle.rules.specs.Registers.{register_of}
use Rattle.rules.specs.JobCalls.{other_reader, lowered}
use Rattle.endings.proofs.Turns.{turn_more, turn_all, changed, kept}
use Rattle.commits.specs.Committing.{with_jobs, lowered_record}
use Rattle.commits.proofs.LoweredHighs.{lower_same}
use Rattle.commits.proofs.lowering.lower_highs.Goals as goal
use Rattle.commits.proofs.lowering.lower_highs.Goals.{then-is_other_reader, else-is_other_reader}

pub loop-i-preserved : goal.loop-i-preserved
loop-i-preserved g c =
    let a = register_of _ c.args.head.now c.loop-i.t in
    let told = rw c.new-view.ensures at c.is_other_reader.ensures in
    let step : register_of _ c.args.head.now c.if-is_other_reader.t ≡ with_jobs a (set c.loop-i.t.jobs.now c.loop-i.i (lowered_record c.args.crew.number c.args.place.0 a (suc c.loop-i.i) (get_or c.loop-i.t.jobs.now c.loop-i.i closed_record))) = elim c.if-is_other_reader.branch [
      | then-is_other_reader w ↦
          let e : c.loop-i.i + 1 - 1 ≡ c.loop-i.i = omega arith in
          let job = (rw c.new-view.ensures at w.record_of-job.ensures) ∙ ap (λ (k : ℕ). get_or c.loop-i.t.jobs.now k closed_record) e in
          let new : record { standing = w.record_of-job.result.standing; job = w.record_of-job.result.job; low = w.record_of-job.result.low; high = w.min-high.result } ≡ lowered c.args.place.0 (get_or c.loop-i.t.jobs.now c.loop-i.i closed_record) = search rules in
          ap (register_of _ c.args.head.now) w.t-is ∙ (ap (with_jobs a) (w.put_record.ensures ∙ ap (set c.loop-i.t.jobs.now c.loop-i.i) new) ∙ changed (with_jobs a) (other_reader a c.args.crew.number) c.loop-i.i _ told _ _ closed_record w.if-is_other_reader.true)
      | else-is_other_reader w ↦ ap (register_of _ c.args.head.now) w.t-is ∙ kept (with_jobs a) (other_reader a c.args.crew.number) c.loop-i.i _ told _ _ closed_record w.if-is_other_reader.false
    ] in (
      search rules,
      turn_more with_jobs (λ r. r.tables.jobs) (lowered_record c.args.crew.number c.args.place.0) closed_record (register_of _ c.args.head.now c.args.t.now) a (register_of _ c.args.head.now c.if-is_other_reader.t) c.loop-i.i c.loop-i.invariant.1 (lower_same c.args.crew.number c.args.place.0 (register_of _ c.args.head.now c.args.t.now) c.loop-i.i) step,
    )

pub returns-clause-step : goal.returns-clause-step
returns-clause-step g c = λ fits. turn_all with_jobs (λ r. r.tables.jobs) (lowered_record c.args.crew.number c.args.place.0) closed_record (register_of _ c.args.head.now c.args.t.now) (register_of _ c.args.head.now c.loop-i.t) (register_of _ c.args.head.now c.loop-i.t) c.loop-i.i c.loop-i.invariant.1 (omega arith)
