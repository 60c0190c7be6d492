-- The goals of `Throttle::free_from` that the prover leaves open.
use Rattle.std.proofs.Common.{arith}
use Rattle.std.proofs.lemmas.Grind.{common_steps}
use Rattle.pace.proofs.throttle.Throttle.free_from.Goals as goal

pub returns : goal.returns
returns c = grind (arith, common_steps)
