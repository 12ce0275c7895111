-- A register that is started and then run.
use Rattle.rules.specs.Contents.{Contents}
use Rattle.rules.specs.Heads.{FillingHead}
use Rattle.rules.specs.Making.{fresh_head, fresh_contents}
use Rattle.rules.specs.Registers.{Register}

-- the register that start leaves, of a head that is filled and of tables that fit it
abbrev pub started_register : {V : Type 0} → FillingHead → Contents V → Register V
started_register head t = record { head = fresh_head head.sizes; tables = fresh_contents head.sizes t }
