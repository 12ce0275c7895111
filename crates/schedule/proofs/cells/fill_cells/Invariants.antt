use Rattle.std.proofs.Common.{◌≡◌}
use Rattle.rules.specs.Contents.{contents_of, Same}
use Rattle.rules.specs.Heads.{dimensions_of, filling_of}
use Rattle.text.specs.Split.{lines_of}
use Rattle.schedule.specs.Filling.{FilledTo}
use Rattle.schedule.proofs.cells.fill_cells.Given as goal

-- the first cells are filled
abbrev pub invariant-loop : goal.invariant-loop
invariant-loop g l = record {
  filled : FilledTo g.K.Kind.form (lines_of l.initial.unread.text.now) l.counter (filling_of l.head) (contents_of _ l.t) l.unread;
  same : Same _ l.t l.initial.t;
  sizes : dimensions_of l.head.sizes ≡ dimensions_of l.initial.head.sizes;
}
