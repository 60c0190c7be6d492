-- The goals of `Throttle::ordered` that the prover leaves open.
use Rattle.std.proofs.Common.{rules}
use Rattle.pace.proofs.throttle.Throttle.ordered.Goals as goal

pub returns : goal.returns
returns c = search rules
