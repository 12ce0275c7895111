use Rattle.history.proofs.crossed_reads_have_no_order.Goals as goal
use Rattle.history.proofs.Examples.{crossed_reads_lem}

pub returns : goal.returns
returns c = crossed_reads_lem
