-- The invariants of the loop of `carrying::execute_all`.
use Rattle.std.proofs.Common.{take}
use Rattle.launcher.specs.HostTurns.{Executed}
use Rattle.launcher.proofs.orders.execute_all.Given as goal

abbrev pub invariant-loop-order : goal.invariant-loop-order
invariant-loop-order g l = Executed (take l.order-index l.step.orders.now) l.fn.answers l.answers (g.E.Edge.told l.fn.edge) (g.E.Edge.told l.edge)
