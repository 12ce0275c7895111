use Rattle.history.proofs.respectful_orders_explain.Goals as goal
use Rattle.history.proofs.Serially.{respectful_orders_explain}

pub returns : goal.returns
returns g c = respectful_orders_explain
