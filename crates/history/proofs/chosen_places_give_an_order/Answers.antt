use Rattle.history.proofs.chosen_places_give_an_order.Goals as goal
use Rattle.history.proofs.Choosing.{chosen_has_order}

pub returns : goal.returns
returns g c = λ f₀ first own z calls law t a. chosen_has_order z first own f₀ law calls t a
