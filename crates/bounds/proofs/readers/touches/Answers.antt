use Rattle.std.proofs.Common.{ℕ, ◌+◌, ◌&&◌, refl, ap, ◌∙◌, rules, tests, arith}
use Rattle.std.proofs.lemmas.Iterator.{YieldsList-from_range}
use Rattle.std.proofs.lemmas.Iterator.Search.{any_from_yields_List}
use Rattle.rules.specs.Tables.{some}
use Rattle.rules.specs.Registers.{has_read, has_written}
use Rattle.bounds.proofs.Looping.{some_over}
use Rattle.bounds.proofs.readers.touches.Goals as goal

pub returns : goal.returns
returns g c =
    let r = c.args.view.now in
    let n = c.sizes.result.cells in
    let t = λ (k : ℕ). has_read r c.args.other.number k && has_written r c.args.crew.number k in
    any_from_yields_List (λ i. t (i + 1)) _ _ _ c.any.ensures.ran (YieldsList-from_range 0 n n refl (omega arith)) (λ x b q k. search (rules, tests))
    ∙ some_over t n ∙ ap (λ s. some t s.cells) c.sizes.ensures
