use Rattle.history.proofs.views_are_opaque.Goals as goal
use Rattle.history.proofs.Viewing.{views_opaque}

pub returns : goal.returns
returns g c = views_opaque
