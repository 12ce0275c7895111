use Rattle.std.proofs.Common.{◌≡◌, ◌-◌}
use Rattle.values.specs.Forms.{read_from, read_value}
use Rattle.values.proofs.reading.read_value.Given as goal

-- what is left to read gives what the whole gives
abbrev pub invariant-loop-i : goal.invariant-loop-i
invariant-loop-i g l =
    read_from g.K.Kind.form l.first (g.K.Kind.form.width - l.i) l.i l.value l.rest ≡ read_value g.K.Kind.form l.first l.line
