use Rattle.std.proofs.Common.{◌≡◌, length}
use Rattle.rules.specs.Contents.{Same}
use Rattle.rules.proofs.Changing.{upto, one_more}
use Rattle.rules.specs.Registers.{register_of}
use Rattle.endings.specs.Endings.{with_reads, raised_read}
use Rattle.endings.proofs.reads.raise_reads.Given as goal

abbrev pub invariant-loop-i : goal.invariant-loop-i
invariant-loop-i g l = Same _ l.t l.initial.t × (length l.t.read.now ≡ length l.initial.t.read.now) ×
    (register_of _ l.head l.t ≡ with_reads (register_of _ l.head l.initial.t) (upto (one_more (raised_read l.crew.number l.fn.place.0 (register_of _ l.head l.initial.t)) 0) l.i l.initial.t.read.now))
