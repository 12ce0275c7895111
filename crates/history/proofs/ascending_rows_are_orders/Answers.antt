use Rattle.history.proofs.ascending_rows_are_orders.Goals as goal
use Rattle.history.proofs.Ordering.{ascending_is_order}

pub returns : goal.returns
returns g c = ascending_is_order
