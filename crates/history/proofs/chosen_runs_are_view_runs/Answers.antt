use Rattle.history.proofs.chosen_runs_are_view_runs.Goals as goal
use Rattle.history.proofs.Choosing.{run_with_view_run}

pub returns : goal.returns
returns g c = λ f₀ first own z run s f law r. (run_with_view_run z first own f₀ law r).0
