use Rattle.std.proofs.Common.{◌+◌, length, sym, ap, ◌∙◌}
use Rattle.std.proofs.lemmas.List.Sums.{length-filter}
use Rattle.memchr.proofs.lemmas.CallerLemmas.{length-places}
use Rattle.text.proofs.Splitting.{is_comma, one_more_than_commas}
use Rattle.text.proofs.count_fields.Goals as goal

pub returns : goal.returns
returns c =
    let commas = c.args.line.now in
    ap (λ n. 1 + n) (c.count.ensures ∙ ap length c.memchr_iter.ensures.value ∙ length-places is_comma commas ∙ sym (length-filter is_comma commas))
    ∙ one_more_than_commas commas
