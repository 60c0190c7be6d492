-- The goals of `Ending::termed_at` that the prover leaves open.
use Rattle.std.proofs.Common.{rules}
use Rattle.pace.proofs.ending.Ending.termed_at.Goals as goal

pub returns : goal.returns
returns c = search rules
