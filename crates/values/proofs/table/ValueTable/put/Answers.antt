use Rattle.std.proofs.Common.{sym, refl, arith}
use Rattle.std.proofs.lemmas.List.{set_past}
use Rattle.values.proofs.table.ValueTable.put.Goals as goal

pub returns-else-i-self : goal.returns-else-i-self
returns-else-i-self g c = record { stored = sym (set_past _ _ _ (omega arith)); same = refl }
