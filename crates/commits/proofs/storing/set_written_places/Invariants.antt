use Rattle.std.proofs.Common.{◌≡◌, length}
use Rattle.rules.specs.Contents.{Same}
use Rattle.rules.proofs.Changing.{upto, one_more}
use Rattle.rules.specs.Registers.{register_of}
use Rattle.commits.specs.Committing.{with_written_places, written_place}
use Rattle.commits.proofs.storing.set_written_places.Given as goal

abbrev pub invariant-loop-i : goal.invariant-loop-i
invariant-loop-i g l = Same _ l.t l.initial.t × (length l.t.written.now ≡ length l.initial.t.written.now) ×
    (register_of _ l.head l.t ≡ with_written_places (register_of _ l.head l.initial.t) (upto (one_more (written_place l.crew.number l.fn.place.0 (register_of _ l.head l.initial.t)) 0) l.i l.initial.t.written.now))
