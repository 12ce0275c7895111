use Rattle.guarantee.proofs.every_run_is_opaque.Goals as goal
use Rattle.guarantee.proofs.Opacity.{every_run_is_opaque}

pub returns : goal.returns
returns g c = every_run_is_opaque _
