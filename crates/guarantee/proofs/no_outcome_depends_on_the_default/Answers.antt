use Rattle.guarantee.proofs.no_outcome_depends_on_the_default.Goals as goal
use Rattle.guarantee.proofs.RuleFacts.{no_outcome_depends_on_default}

pub returns : goal.returns
returns g c = no_outcome_depends_on_default _
