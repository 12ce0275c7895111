use Rattle.guarantee.proofs.register_is_permissive.Goals as goal
use Rattle.guarantee.proofs.Permissiveness.{register_is_permissive}

pub returns : goal.returns
returns g c = register_is_permissive _
