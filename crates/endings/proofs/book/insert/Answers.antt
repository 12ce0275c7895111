use Rattle.std.proofs.Common.{rules}
use Rattle.endings.proofs.Inserting.{inserted_at}
use Rattle.endings.proofs.book.insert.Goals as goal

pub returns-clause-entered : goal.returns-clause-entered
returns-clause-entered c = λ room. inserted_at c.args.book.now c.args.ended c.entries_before-spot.result c.args.added room (search rules) _ c.copy_within.ensures.after c.entries_before-spot.ensures.above c.entries_before-spot.ensures.not_above
