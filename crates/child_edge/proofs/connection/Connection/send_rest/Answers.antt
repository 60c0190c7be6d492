-- Nothing was sent.
use Rattle.std.proofs.Common.{refl, subst, sym}
use Rattle.std.specs.Io.KnownBytes.{Keeps}
use Rattle.child_edge.proofs.RepliesLemmas.{forwards_nothing, sends_nothing}
use Rattle.child_edge.proofs.connection.Connection.send_rest.Goals as goal

pub returns-in-Err : goal.returns-in-Err
returns-in-Err g c = λ stays.
    let kept : Keeps (g.C.Write.contents c.args.self.now.client) (g.C.Write.contents c.wait.new.self.client) =
    subst (λ client. Keeps (g.C.Write.contents c.args.self.now.client) (g.C.Write.contents client)) (sym c.wait.ensures.client) c.in-Err.ensures.bytes in
    forwards_nothing g.C.Write.contents g.F.Read.remaining c.wait.result c.args.self.now c.wait.new.self c.wait.ensures.either kept c.wait.ensures.exchange c.wait.ensures.reply stays

pub returns-in-Err-3 : goal.returns-in-Err-3
returns-in-Err-3 g c = λ stays.
    (c.args.self.now.exchange.unsent, sends_nothing g.C.Write.contents g.F.Read.remaining c.args.self.now _ c.in-Err-3.ensures.bytes refl)
