-- A further step.
use Rattle.std.proofs.Common.{refl}
use Rattle.std.proofs.KnownBytes.{Keeps-refl}
use Rattle.child_edge.specs.declared.connection.Progress.TheVariants.{MayGoOn}
use Rattle.child_edge.proofs.RepliesLemmas.{forwards_then, sends_nothing}
use Rattle.child_edge.proofs.connection.Connection.forward.Goals as goal

pub loop-init : goal.loop-init
loop-init g c = λ stays. (sends_nothing g.C.Write.contents g.F.Read.remaining c.args.self.now c.args.self.now (Keeps-refl _) refl, stays)

pub returns-in-Some : goal.returns-in-Some
returns-in-Some g c = λ stays.
    let so_far = c.loop.invariant stays in
    forwards_then g.C.Write.contents g.F.Read.remaining c.in-Some.progress c.args.self.now c.loop.self c.send_next.new.self so_far (c.in-Some.ensures so_far.1)

pub loop-preserved : goal.loop-preserved
loop-preserved g c = λ stays.
    let so_far = c.loop.invariant stays in
    forwards_then g.C.Write.contents g.F.Read.remaining MayGoOn c.args.self.now c.loop.self c.send_next.new.self so_far (c.in_default.ensures so_far.1)
