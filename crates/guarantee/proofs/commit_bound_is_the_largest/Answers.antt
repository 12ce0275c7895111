use Rattle.guarantee.proofs.commit_bound_is_the_largest.Goals as goal
use Rattle.guarantee.proofs.RuleFacts.{commit_bound_is_largest}

pub returns : goal.returns
returns g c = commit_bound_is_largest _
