use Rattle.history.proofs.bounds_are_opaque.Goals as goal
use Rattle.history.proofs.Opacity.{bounds_opaque}

pub returns : goal.returns
returns g c = bounds_opaque
