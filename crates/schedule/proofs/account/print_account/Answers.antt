use Rattle.std.proofs.Common.{sym, rules}
use Rattle.output.proofs.Lent.{stopped_paper}
use Rattle.schedule.specs.Accounts.{account_lines}
use Rattle.schedule.proofs.account.print_account.Goals as goal

pub returns-then-is_err : goal.returns-then-is_err
returns-then-is_err c =
    let p = stopped_paper (account_lines c.args.schedule.now) c.args.paper.now _ _ c.write_stop.new.self
    c.requires.0 c.write_account.ensures (sym c.if-is_err.ensures.value) c.requires.1 c.write_stop.ensures.text c.write_stop.ensures.used in
    record { used = p.0; text = p.1; same = search rules }
