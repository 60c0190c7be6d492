-- The invariant of the loop of `hung::Hung::answered`.
use Rattle.std.proofs.Common.{◌≡◌}
use Rattle.look_out.proofs.hung.Hung.answered.Given as goal

-- the number of helpers stays
abbrev pub invariant-loop : goal.invariant-loop
invariant-loop g l = l.self ≡ l.fn.self
