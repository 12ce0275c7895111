use Rattle.guarantee.proofs.histories_are_true.Goals as goal
use Rattle.guarantee.proofs.Histories.{histories_are_true}

pub returns : goal.returns
returns g c = histories_are_true _
