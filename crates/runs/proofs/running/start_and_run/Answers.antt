use Rattle.std.proofs.Common.{Ok, sym, ap, ◌∙◌, subst}
use Rattle.rules.specs.Contents.{contents_of}
use Rattle.rules.specs.Heads.{filling_of, started_of}
use Rattle.rules.specs.Making.{StartOutcome}
use Rattle.rules.specs.Registers.{Register, register_of}
use Rattle.guarantee.specs.Promise.{PromiseFromStart}
use Rattle.guarantee.proofs.Promise.{from_start}
use Rattle.runs.specs.Logs.{log_of}
use Rattle.runs.proofs.Starting.{started_is}
use Rattle.runs.proofs.running.start_and_run.Goals as goal

pub returns-clause-kept : goal.returns-clause-kept
returns-clause-kept g c =
    let out = c.in_ok-started.ensures.outcome in
    let is = started_is (filling_of c.args.head) (contents_of _ c.args.t.now) (started_of c.in_ok-started.started) (contents_of _ c.start.new.t) out in (
      sym (ap (λ (q : StartOutcome _). q.answer) out) ∙ ap (λ (q : Register _). Ok q.head) is,
      λ d.
          let P : Register g.row.V.Denot → Type 0 = λ s. PromiseFromStart d s (g.C.Chooser.meaning c.args.chooser.now) (log_of c.run.new.list)
          (register_of _ c.run.new.head c.run.new.t) (g.C.Chooser.meaning c.run.new.chooser) in
          subst P is (from_start d _ _ _ _ _ c.in_ok-started.ensures.started (c.run.ensures.promise d)),
    )
