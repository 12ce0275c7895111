use Rattle.history.proofs.answers_do_not_matter.Goals as goal
use Rattle.history.proofs.Alike.{answers_aside}

pub returns : goal.returns
returns g c = answers_aside
