use Rattle.std.proofs.Common.{◌≡◌, ◌+◌, ◌-◌, [], take}
use Rattle.stages.specs.ChooserLines.{numbers_from}
use Rattle.stages.proofs.chooser_line.read_script.Given as goal

-- what is left to read after the numbers stored so far gives what the whole gives
abbrev pub invariant-loop-i : goal.invariant-loop-i
invariant-loop-i l = numbers_from (take l.i l.slot-items) (l.count - l.i) (3 + l.i) l.rest ≡ numbers_from [] l.count 3 l.line
