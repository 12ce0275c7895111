use Rattle.history.proofs.well_made_runs_are_well_formed.Goals as goal
use Rattle.history.proofs.Crews.{well_formed}

pub returns : goal.returns
returns g c = well_formed
