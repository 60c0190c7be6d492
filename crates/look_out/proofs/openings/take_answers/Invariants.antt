-- The invariant of the loop of `openings::take_answers`.
use Rattle.std.proofs.Common.{◌≡◌}
use Rattle.std.specs.Prelude.{length}
use Rattle.look_out.proofs.openings.take_answers.Given as goal

-- the number of answers that were waited for
abbrev pub invariant-loop : goal.invariant-loop
invariant-loop g l = length l.answers.items ≡ l.counter
