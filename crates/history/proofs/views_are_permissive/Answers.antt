use Rattle.history.proofs.views_are_permissive.Goals as goal
use Rattle.history.proofs.Permissiveness.{views_permissive}

pub returns : goal.returns
returns g c = views_permissive
