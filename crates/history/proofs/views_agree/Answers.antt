use Rattle.history.proofs.views_agree.Goals as goal
use Rattle.history.proofs.Viewing.{views_agree}

pub returns : goal.returns
returns g c = views_agree
