use Rattle.guarantee.proofs.examples_stand.Goals as goal
use Rattle.guarantee.proofs.Examples.{examples_stand}

pub returns : goal.returns
returns c = examples_stand
