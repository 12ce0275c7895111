use Rattle.std.proofs.Common.{◌≡◌, ◌≤◌}
use Rattle.rules.specs.Contents.{Same}
use Rattle.rules.proofs.Changing.{upto, one_more}
use Rattle.rules.specs.Registers.{register_of}
use Rattle.admission.specs.Lent.{AllFit}
use Rattle.commits.specs.Committing.{with_values, stored_value}
use Rattle.commits.proofs.storing.store_values.Given as goal

abbrev pub invariant-loop-i : goal.invariant-loop-i
invariant-loop-i g l = Same _ l.t l.initial.t ×
    (AllFit (register_of _ l.head l.initial.t) → l.crew.number ≤ l.head.sizes.crews → (d : _) → register_of _ l.head l.t ≡ with_values (register_of _ l.head l.initial.t) (upto (one_more (stored_value d l.crew.number (register_of _ l.head l.initial.t)) d) l.i l.initial.t.values.now))
