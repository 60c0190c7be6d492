-- A piece that was read.
use Rattle.std.proofs.Common.{take}
use Rattle.child_edge.proofs.RepliesLemmas.{passed_on}
use Rattle.child_edge.proofs.connection.Connection.pass_on.Goals as goal

pub returns-in-Ok : goal.returns-in-Ok
returns-in-Ok g c = λ stays.
    passed_on g.C.Write.contents g.F.Read.remaining (take c.in-Ok.count c.read.new.buf) c.read.new.self c.send_piece.result c.args.self.now c.send_piece.new.self
    c.requires c.in-Ok.ensures.bytes.0 c.send_piece.ensures.reply (c.send_piece.ensures.sends stays)
