use Rattle.history.proofs.moved_bounds_agree.Goals as goal
use Rattle.history.proofs.Opacity.{bounds_agree}

pub returns : goal.returns
returns g c = bounds_agree
