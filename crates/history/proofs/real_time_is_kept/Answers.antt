use Rattle.history.proofs.real_time_is_kept.Goals as goal
use Rattle.history.proofs.Examples.{real_time_kept}

pub returns : goal.returns
returns c = real_time_kept
