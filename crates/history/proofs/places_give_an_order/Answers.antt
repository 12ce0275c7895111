use Rattle.history.proofs.places_give_an_order.Goals as goal
use Rattle.history.proofs.Ordering.{places_give_order}

pub returns : goal.returns
returns g c = places_give_order
