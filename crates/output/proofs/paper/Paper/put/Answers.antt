use Rattle.std.proofs.Common.{◌+◌, length, sym}
use Rattle.std.proofs.lemmas.Bool.{leb-true}
use Rattle.output.proofs.Lent.{piece_copied}
use Rattle.output.proofs.paper.Paper.put.Goals as goal

pub returns : goal.returns
returns c =
    let room = leb-true (c.args.self.now.count.used + length c.args.bytes.now + 64) (length c.args.self.now.bytes.now) (sym c.if-not-has_room.ensures) in
    piece_copied c.args.bytes.now c.args.self.now c.copy.new.self room c.copy.ensures.text c.copy.ensures.used c.copy.ensures.same
