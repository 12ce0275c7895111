use Rattle.guarantee.proofs.promise_is_kept.Goals as goal
use Rattle.guarantee.proofs.Promise.{promise_is_kept}

pub returns : goal.returns
returns g c = promise_is_kept _
