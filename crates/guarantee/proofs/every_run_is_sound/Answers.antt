use Rattle.guarantee.proofs.every_run_is_sound.Goals as goal
use Rattle.guarantee.proofs.Soundness.{every_run_is_sound}

pub returns : goal.returns
returns g c = every_run_is_sound _
