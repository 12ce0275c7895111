use Rattle.history.proofs.positions_are_accepted.Goals as goal
use Rattle.history.proofs.Permissiveness.{positions_accepted}

pub returns : goal.returns
returns g c = positions_accepted
