use Rattle.std.proofs.Common.{arith}
use Rattle.output.proofs.Writing.{laid_by_copy}
use Rattle.output.proofs.paper.Paper.copy.Goals as goal

pub returns-clause-text : goal.returns-clause-text
returns-clause-text c = laid_by_copy c.args.self.now.bytes.now c.args.self.now.count.used _ _ c.args.bytes.now c.copy_from_slice.ensures.after (omega arith)
