use Rattle.guarantee.proofs.accepted_calls_have_an_order.Goals as goal
use Rattle.guarantee.proofs.Permissiveness.{accepted_calls_have_order}

pub returns : goal.returns
returns g c = accepted_calls_have_order _
