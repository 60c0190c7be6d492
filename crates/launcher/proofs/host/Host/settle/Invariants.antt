-- The invariants of the loop of `Host::settle`.
use Rattle.std.proofs.Common.{◌≡◌, ◌≤◌, ◌*◌, ◌-◌, List}
use Rattle.history_model.specs.Machine.{State}
use Rattle.history_model.specs.Turns.{JobOrder}
use Rattle.history_model.specs.AwaitedOrders.{weigh_orders}
use Rattle.loaded_jobs.specs.Tables.{Name}
use Rattle.launcher.specs.HostTurns.{IsWaiting}
use Rattle.launcher.proofs.SettlingLemmas.{IsSoFar}
use Rattle.launcher.proofs.host.Host.settle.Given as goal
use Rattle.history_model.specs.declared.TheConstants.{MAX_JOBS}

abbrev pub invariant-loop-next : goal.invariant-loop-next
invariant-loop-next g l =
    ((s : State) (names : List Name) (waits : List JobOrder) → IsWaiting l.fn.self.table s names waits l.fn.self.answers → weigh_orders waits ≤ 3 * MAX_JOBS →
    IsSoFar s names l.fn.self.answers l.self.answers l.next l.self.table (g.E.Edge.told l.fn.self.edge) (g.E.Edge.told l.self.edge) l.fn.self.journal l.self.journal)
    × (l.self.store ≡ l.fn.self.store)

abbrev pub decreases-loop-next : goal.decreases-loop-next
decreases-loop-next g l = 3 * MAX_JOBS - l.next
