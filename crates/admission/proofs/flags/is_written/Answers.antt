use Rattle.std.proofs.Common.{arith}
use Rattle.std.proofs.lemmas.Nat.Bits.{and_pow}
use Rattle.admission.proofs.flags.is_written.Goals as goal

pub returns : goal.returns
returns c = grind (arith, and_pow c.args.flag 1)
