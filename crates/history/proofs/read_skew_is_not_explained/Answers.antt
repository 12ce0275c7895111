use Rattle.history.proofs.read_skew_is_not_explained.Goals as goal
use Rattle.history.proofs.Examples.{read_skew_lem}

pub returns : goal.returns
returns c = read_skew_lem
