use Rattle.std.proofs.Common.{rules, sym, ap, ◌+◌, ◌∙◌}
use Rattle.std.proofs.lemmas.Result.{err_from_is_err_and}
use Rattle.stages.specs.declared.stage.Reader.{Reader}
use Rattle.stages.specs.HeadLines.{read_head}
use Rattle.stages.specs.ChooserLines.{read_chooser}
use Rattle.stages.specs.Stages.{moved_on}
use Rattle.text.specs.Split.{lines_of}
use Rattle.schedule.specs.Accounts.{at_chooser, of_kind}
use Rattle.schedule.proofs.Nexts.{let_go, opened}
use Rattle.schedule.proofs.HeadRanges.{head_in_range}
use Rattle.schedule.proofs.reading.read_opening.Goals as goal

pub returns-in_err-read_next : goal.returns-in_err-read_next
returns-in_err-read_next c =
    let p = err_from_is_err_and c.from_residual-in_err-read_next.result c.from_residual-in_err-read_next.ensures.1 in
    let head = c.in_ok-head.ensures.wanted read_head (λ l r h. search rules) at_chooser in
    let rest = c.in_err-read_next.ensures.wanted (λ l. let_go (read_chooser 256 l)) (λ l r h. search rules) (λ _. of_kind c.in_ok-head.head.kind c.in_ok-head.head.cells) in
    rw (p.1, p.2) (opened c.in_ok-head.head (lines_of c.args.text.now) _ c.read_next.new.self head c.in_ok-head.ensures.moved.0 c.in_ok-head.ensures.moved.1 rest)

pub invariant_of-result : goal.invariant_of-result
invariant_of-result c =
    let given = c.in_ok-head.ensures.given in
    record {
      in_range = head_in_range given.0 c.in_ok-head.head (ap read_head (sym given.1.2) ∙ sym given.1.1);
      at_cells = c.in_ok-read_next.ensures.moved.0 ∙ ap (λ (q : Reader). moved_on q.stage c.in_ok-head.head.cells q.width) c.in_ok-head.ensures.moved.0;
      third_line = c.in_ok-read_next.ensures.moved.1 ∙ ap (λ n. n + 1) c.in_ok-head.ensures.moved.1;
    }

pub returns : goal.returns
returns c =
    let head = c.in_ok-head.ensures.wanted read_head (λ l r h. search rules) at_chooser in
    let rest = c.in_ok-read_next.ensures.wanted (λ l. let_go (read_chooser 256 l)) (λ l r h. search rules) (λ _. of_kind c.in_ok-head.head.kind c.in_ok-head.head.cells) in
    opened c.in_ok-head.head (lines_of c.args.text.now) _ c.read_next.new.self head c.in_ok-head.ensures.moved.0 c.in_ok-head.ensures.moved.1 rest
