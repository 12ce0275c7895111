use Rattle.std.proofs.Common.{◌+◌, ap, ◌∙◌, rules, tests, arith}
use Rattle.std.proofs.lemmas.Iterator.{YieldsList-from_range, YieldsList-from_map}
use Rattle.rules.specs.Tables.{most}
use Rattle.bounds.specs.Bounds.{cell_bound}
use Rattle.bounds.proofs.Looping.{most_from_max}
use Rattle.bounds.proofs.cells.cells_bound.Goals as goal

pub returns : goal.returns
returns g c =
    let f = cell_bound c.args.view.now c.args.crew.number in
    let n = c.sizes.result.cells in
    c.unwrap_or.ensures ∙ most_from_max f n c.map.result c.max.result c.max.ensures.ran (YieldsList-from_map _ (λ i. f (i + 1)) (YieldsList-from_range 0 n n c.map.ensures.source (omega arith)) c.map.ensures.closure (λ x b q k. search (rules, tests))) ∙ ap (λ s. most f s.cells) c.sizes.ensures
