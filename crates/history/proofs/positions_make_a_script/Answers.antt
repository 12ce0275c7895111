use Rattle.history.proofs.positions_make_a_script.Goals as goal
use Rattle.history.proofs.Choosing.{positions_script}

pub returns : goal.returns
returns g c = λ first own z. positions_script z first own
