use Rattle.history.proofs.scripts_are_permissive.Goals as goal
use Rattle.history.proofs.Choosing.{scripts_permissive}

pub returns : goal.returns
returns g c = scripts_permissive
