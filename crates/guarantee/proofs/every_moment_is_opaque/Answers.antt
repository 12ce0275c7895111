use Rattle.guarantee.proofs.every_moment_is_opaque.Goals as goal
use Rattle.guarantee.proofs.Opacity.{every_moment_is_opaque}

pub returns : goal.returns
returns g c = every_moment_is_opaque _
