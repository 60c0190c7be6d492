-- What of a piece was sent, and what waits.
use Rattle.std.proofs.Common.{[], refl, subst, sym}
use Rattle.std.specs.Io.KnownBytes.{Appends}
use Rattle.child_edge.proofs.RepliesLemmas.{keeps_nothing, piece_sent}
use Rattle.child_edge.proofs.connection.Connection.send_piece.Goals as goal

pub returns-in-Ok-clause-sends : goal.returns-in-Ok-clause-sends
returns-in-Ok-clause-sends g c = λ stays.
    piece_sent g.C.Write.contents c.args.piece.now c.in-Ok.count c.args.self.now _ c.in-Ok.ensures.bytes (c.keep_rest.ensures c.requires.nothing stays.1 c.requires.short) stays

pub returns-in-Err-clause-sends : goal.returns-in-Err-clause-sends
returns-in-Err-clause-sends g c = λ stays. record {
  sent = [];
  sends = subst (λ client. Appends (g.C.Write.contents c.args.self.now.client) (g.C.Write.contents client) []) (sym c.put_off.ensures.client) (keeps_nothing _ _ c.in-Err.ensures.bytes);
  rest = c.args.piece.now;
  joined = refl;
  stops = c.put_off.ensures.waits stays;
}
