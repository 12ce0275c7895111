use Rattle.std.proofs.Common.{rules, ◌<◌, ap, arith}
use Rattle.std.proofs.lemmas.Result.{err_from_is_err_and}
use Rattle.rules.specs.Heads.{Dimensions, filling_of}
use Rattle.rules.specs.Contents.{contents_of}
use Rattle.text.specs.Split.{lines_of}
use Rattle.schedule.specs.Accounts.{read_cell}
use Rattle.schedule.proofs.Filling.{cell_bad, cell_filled}
use Rattle.schedule.proofs.cells.fill_cells.Goals as goal

pub returns-in_err-value-clause-read : goal.returns-in_err-value-clause-read
returns-in_err-value-clause-read g c =
    let p = err_from_is_err_and c.from_residual.result c.from_residual.ensures.1 in
    let cells = ap (λ (d : Dimensions). d.cells) c.loop.invariant.sizes in
    let lt : c.loop.counter < c.loop.head.sizes.cells = omega arith in
    let line = c.in_err-value.ensures.wanted (read_cell g.K.Kind.form) (λ l r h. search rules) in
    rw (p.1, p.2) (cell_bad g.K.Kind.form (lines_of c.args.unread.now.text.now) c.loop.counter _ (filling_of c.loop.head) (contents_of _ c.loop.t) c.loop.unread c.in_err-value.field-0.0 c.loop.invariant.filled lt cells line)

pub loop-preserved : goal.loop-preserved
loop-preserved g c =
    let cells = ap (λ (d : Dimensions). d.cells) c.loop.invariant.sizes in
    let lt : c.loop.counter < c.loop.head.sizes.cells = omega arith in
    let line = c.in_ok-value.ensures.wanted (read_cell g.K.Kind.form) (λ l r h. search rules) in
    record {
      filled = cell_filled g.K.Kind.form (lines_of c.args.unread.now.text.now) c.loop.counter (filling_of c.loop.head) (filling_of c.fill.new.head) (contents_of _ c.loop.t) (contents_of _ c.fill.new.t) c.fill.result
          c.loop.unread c.read_next.new.self c.in_ok-value.value c.loop.invariant.filled lt line c.in_ok-value.ensures.moved c.fill.ensures.outcome;
      same = search rules;
      sizes = search rules;
    }
