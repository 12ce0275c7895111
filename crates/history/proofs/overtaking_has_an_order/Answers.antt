use Rattle.history.proofs.overtaking_has_an_order.Goals as goal
use Rattle.history.proofs.Examples.{overtaking_has_order}

pub returns : goal.returns
returns c = overtaking_has_order
