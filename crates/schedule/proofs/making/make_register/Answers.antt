use Rattle.std.proofs.Common.{map, ap, ◌∙◌, sym}
use Rattle.std.proofs.lemmas.Result.{err_from_is_err_and}
use Rattle.rules.specs.declared.sizes.Sizes.{Sizes}
use Rattle.rules.specs.Heads.{Dimensions, filling_of}
use Rattle.rules.specs.Contents.{contents_of}
use Rattle.rules.specs.Making.{StartOutcome}
use Rattle.rules.proofs.Accepting.{start_accepts}
use Rattle.output.specs.Lines.{value_line}
use Rattle.text.specs.Split.{lines_of}
use Rattle.schedule.proofs.Filling.{all_filled}
use Rattle.schedule.proofs.making.make_register.Goals as goal

pub returns-in_err-read_calls-clause-read : goal.returns-in_err-read_calls-clause-read
returns-in_err-read_calls-clause-read g c =
    let p = err_from_is_err_and c.from_residual-in_err-read_calls.result c.from_residual-in_err-read_calls.ensures.1 in
    let filled = c.in_ok-fill_cells.ensures in
    let cells = ap (λ (d : Dimensions). d.cells) filled.sizes in
    let sizes = ap (λ (s : Sizes). s.cells) c.new-head.ensures.0 in
    rw (p.1, p.2) (all_filled g.K.Kind.form (lines_of c.args.unread.now.text.now) c.new-head.result.sizes.cells c.args.sizes.cells (filling_of c.fill_cells.new.head) (contents_of _ c.fill_cells.new.t)
    c.fill_cells.new.unread _ filled.read cells sizes (c.in_err-read_calls.ensures (contents_of _ c.fill_cells.new.t).values))

pub returns-clause-read : goal.returns-clause-read
returns-clause-read g c =
    let filled = c.in_ok-fill_cells.ensures in
    let cells = ap (λ (d : Dimensions). d.cells) filled.sizes in
    let sizes = ap (λ (s : Sizes). s.cells) c.new-head.ensures.0 in
    let started = c.start.ensures.outcome ∙ start_accepts (filling_of c.fill_cells.new.head) (contents_of _ c.fill_cells.new.t) filled.read.tables_fit (filled.read.counted ∙ sym cells) in
    all_filled g.K.Kind.form (lines_of c.args.unread.now.text.now) c.new-head.result.sizes.cells c.args.sizes.cells (filling_of c.fill_cells.new.head) (contents_of _ c.fill_cells.new.t)
    c.fill_cells.new.unread _ filled.read cells sizes (c.in_ok-read_calls.ensures (contents_of _ c.fill_cells.new.t).values)
    ∙ sym (ap (λ (o : StartOutcome _). map (value_line g.K.Kind.form) o.contents.values) started)
