-- The invariant of the loop of `left::LookOuts::reap`.
use Rattle.std.proofs.Common.{◌≤◌}
use Rattle.look_out.proofs.left.LookOuts.reap.Given as goal

-- no further one is there
abbrev pub invariant-loop : goal.invariant-loop
invariant-loop g l = l.self ≤ l.fn.self
