use Rattle.guarantee.proofs.every_call_can_be_performed.Goals as goal
use Rattle.guarantee.proofs.RuleFacts.{every_call_can_be_performed}

pub returns : goal.returns
returns g c = every_call_can_be_performed _
