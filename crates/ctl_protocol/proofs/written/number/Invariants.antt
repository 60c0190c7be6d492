-- What stays true in the loop of `written::number`.
use Rattle.std.proofs.Common.{◌≡◌, ◌<◌, ◌++◌, decimal, length}
use Rattle.ctl_protocol.proofs.written.number.Given as goal

abbrev pub invariant-loop-next : goal.invariant-loop-next
invariant-loop-next l = (0 < l.n) × (l.bytes ≡ decimal l.n ++ l.rest)

abbrev pub decreases-loop-next : goal.decreases-loop-next
decreases-loop-next l = length l.rest
