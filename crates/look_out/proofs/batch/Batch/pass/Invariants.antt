-- The invariant of the loop of `batch::Batch::pass`.
use Rattle.std.proofs.Common.{◌≡◌}
use Rattle.look_out.proofs.batch.Batch.pass.Given as goal

-- no question is changed
abbrev pub invariant-loop-at : goal.invariant-loop-at
invariant-loop-at l = l.self.entries ≡ l.fn.self.entries
