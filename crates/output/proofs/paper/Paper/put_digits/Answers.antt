use Rattle.std.proofs.Common.{sym, rules}
use Rattle.std.proofs.lemmas.Fmt.{decimal_digit}
use Rattle.itoa.proofs.Decimal.{decimal_two}
use Rattle.output.proofs.Lent.{piece_as}
use Rattle.output.proofs.paper.Paper.put_digits.Goals as goal

pub returns-in-0-to-9 : goal.returns-in-0-to-9
returns-in-0-to-9 c = piece_as _ _ _ _ _ (sym (decimal_digit c.args.n (search rules))) c.put.ensures

pub returns-in-10-to-99 : goal.returns-in-10-to-99
returns-in-10-to-99 c = piece_as _ _ _ _ _ (sym (decimal_two c.args.n (search rules) (search rules))) c.put-in-10-to-99.ensures
