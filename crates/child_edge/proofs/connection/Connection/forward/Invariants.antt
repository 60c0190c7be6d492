-- What was sent so far.
use Rattle.child_edge.specs.Replies.{Forwards, IsOpen}
use Rattle.child_edge.specs.declared.connection.Progress.TheVariants.{MayGoOn}
use Rattle.child_edge.proofs.connection.Connection.forward.Given as goal

abbrev pub invariant-loop : goal.invariant-loop
invariant-loop g l =
    IsOpen l.fn.self.exchange → Forwards g.C.Write.contents g.F.Read.remaining MayGoOn l.fn.self l.self
