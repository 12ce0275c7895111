use Rattle.std.proofs.Common.{◌≡◌, take}
use Rattle.output.proofs.answers.fields_of.Given as goal

-- the numbers of the first fields
abbrev pub invariant-loop-i : goal.invariant-loop-i
invariant-loop-i g l = l.fields.items ≡ take l.i (g.K.Kind.form.fields l.value)
