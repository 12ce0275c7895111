use Rattle.std.proofs.Common.{rules, Ok, Err, Result, ◌≡◌, ℕ, List, refl, ap, ◌∙◌}
use Rattle.std.specs.Fn.{FnOnceReturnsAt}
use Rattle.std.specs.Result.{IfOk}
use Rattle.terms.specs.declared.refusals.BadField.{BadField}
use Rattle.terms.specs.declared.refusals.BadLine.{BadLine}
use Rattle.text.specs.Split.{lines_of}
use Rattle.schedule.proofs.Nexts.{in_line, told, wanted_read}
use Rattle.schedule.proofs.reading.Unread.read_next.Goals as goal

pub returns-clause-wanted : goal.returns-clause-wanted
returns-clause-wanted g c wants reads next =
    let line = c.in_ok-line.ensures in
    let t = told c.args.self.now.number c.read.result c.map_err.result _ c.map_err.ensures.cases (λ at bad h. search rules) in
    let read = reads c.in_ok-line.line.now c.read.result (c.in_ok-line.line, c.read.ensures, refl) in
    wanted_read c.args.self.now.number c.args.self.now.reader.stage c.args.self.now.reader.width wants next (lines_of c.args.self.now.text.now) c.in_ok-line.line.now (lines_of c.next_line.new.self.text.now)
    c.map_err.result line.0 line.1 (t ∙ ap (in_line c.args.self.now.number) read)

if_told : {A : Type 0} (k : ℕ) (r : Result A BadField) (s : Result A BadLine) (P : Result A BadField → Type 0) → s ≡ in_line k r → P r → IfOk s (λ a. P (Ok a))
if_told k (Ok a) s P e p = rw e p
if_told k (Err bad) s P e p = rw e tt

pub returns-clause-given : goal.returns-clause-given
returns-clause-given g c =
    let t = told c.args.self.now.number c.read.result c.map_err.result _ c.map_err.ensures.cases (λ at bad h. search rules) in
    if_told c.args.self.now.number c.read.result c.map_err.result (λ r. (line : List ℕ) × FnOnceReturnsAt g.F.FnOnce c.args.read line r) t
    (c.in_ok-line.line.now, (c.in_ok-line.line, c.read.ensures, refl))
