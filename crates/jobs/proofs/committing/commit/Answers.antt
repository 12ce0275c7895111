use Rattle.std.proofs.Common.{ℕ, ◌+◌, ◌<◌, ◌≤◌, ap, subst, arith}
use Rattle.rules.specs.Registers.{high_of, register_of}
use Rattle.rules.specs.JobCalls.{commit_low}
use Rattle.endings.specs.Endings.{AbandonedAt}
use Rattle.commits.specs.Committing.{CommittedAt}
use Rattle.jobs.proofs.Committed.{commit_abandons, commit_stores}
use Rattle.jobs.proofs.committing.commit.Goals as goal

pub returns-then-from-low-clause-performed : goal.returns-then-from-low-clause-performed
returns-then-from-low-clause-performed g c = λ d.
    let r = register_of _ c.args.head.now c.args.t.now in
    let r' = register_of _ c.abandon_job.new.head c.abandon_job.new.t in
    let f = g.C.Chooser.meaning c.args.chooser.now in
    let f' = g.C.Chooser.meaning c.abandon_job.new.chooser in
    let w = c.in_ok-admitted.admitted.number in
    let passed = rw c.new-view.ensures at c.in_ok-admitted.ensures.answer in
    let known = rw c.new-view.ensures at c.in_ok-admitted.ensures.admitted in
    let high = rw c.new-view.ensures at c.record_of-high.ensures in
    let low = rw c.new-view.ensures at c.commit_low-low.ensures in
    let full : high_of r w < commit_low r w + 2 = omega (arith, ap (λ j. j.high.0) high, low, c.from.ensures, c.if-from-low.true) in
    commit_abandons d r r' f f' c.args.crew c.abandon_job.result passed
    (subst (λ (n : ℕ). high_of r n < commit_low r n + 2) known.0 full)
    (subst (λ (n : ℕ). AbandonedAt r f n c.abandon_job.result.0 r' f') known.0 (c.abandon_job.ensures.abandoned known.1))

pub returns-clause-performed : goal.returns-clause-performed
returns-clause-performed g c = λ d.
    let r = register_of _ c.args.head.now c.args.t.now in
    let r' = register_of _ c.commit_job.new.head c.commit_job.new.t in
    let f = g.C.Chooser.meaning c.args.chooser.now in
    let f' = g.C.Chooser.meaning c.commit_job.new.chooser in
    let w = c.in_ok-admitted.admitted.number in
    let passed = rw c.new-view.ensures at c.in_ok-admitted.ensures.answer in
    let known = rw c.new-view.ensures at c.in_ok-admitted.ensures.admitted in
    let high = rw c.new-view.ensures at c.record_of-high.ensures in
    let low = rw c.new-view.ensures at c.commit_low-low.ensures in
    let place-left : commit_low r w + 2 ≤ high_of r w = omega (arith, ap (λ j. j.high.0) high, low, c.from.ensures, c.if-from-low.false, known.1.room) in
    commit_stores d r r' f f' c.args.crew c.commit_job.result passed
    (subst (λ (n : ℕ). commit_low r n + 2 ≤ high_of r n) known.0 place-left)
    (subst (λ (n : ℕ). CommittedAt d r f n c.commit_job.result.0 r' f') known.0 (c.commit_job.ensures.committed (record { goes_on = known.1; bound = low; room = omega (arith, low, place-left) }) d))
