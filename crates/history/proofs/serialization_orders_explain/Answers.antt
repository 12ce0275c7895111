use Rattle.history.proofs.serialization_orders_explain.Goals as goal
use Rattle.history.proofs.Ordering.{orders_explain}

pub returns : goal.returns
returns g c = orders_explain
