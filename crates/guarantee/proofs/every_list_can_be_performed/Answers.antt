use Rattle.guarantee.proofs.every_list_can_be_performed.Goals as goal
use Rattle.guarantee.proofs.Permissiveness.{every_list_can_be_performed}

pub returns : goal.returns
returns g c = every_list_can_be_performed _
