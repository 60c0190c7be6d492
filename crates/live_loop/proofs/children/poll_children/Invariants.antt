-- The runs that were over so far.
use Rattle.live_loop.specs.Children.{Polls}
use Rattle.live_loop.proofs.children.poll_children.Given as goal

abbrev pub invariant-loop : goal.invariant-loop
invariant-loop g l = Polls g.H.LoopHost.Polled l.initial.next l.initial.host l.counter l.next l.host
