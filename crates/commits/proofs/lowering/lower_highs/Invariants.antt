use Rattle.std.proofs.Common.{◌≡◌}
use Rattle.rules.specs.Contents.{Same, closed_record}
use Rattle.rules.proofs.Changing.{upto, one_more}
use Rattle.rules.specs.Registers.{register_of}
use Rattle.commits.specs.Committing.{with_jobs, lowered_record}
use Rattle.commits.proofs.lowering.lower_highs.Given as goal

abbrev pub invariant-loop-i : goal.invariant-loop-i
invariant-loop-i g l = Same _ l.t l.initial.t ×
    (register_of _ l.head l.t ≡ with_jobs (register_of _ l.head l.initial.t) (upto (one_more (lowered_record l.crew.number l.fn.place.0 (register_of _ l.head l.initial.t)) closed_record) l.i l.initial.t.jobs.now))
