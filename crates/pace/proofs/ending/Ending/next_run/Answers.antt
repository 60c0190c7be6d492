-- The goals of `Ending::next_run` that the prover leaves open.
use Rattle.std.proofs.Common.{rules}
use Rattle.pace.proofs.ending.Ending.next_run.Goals as goal

pub returns : goal.returns
returns c = search rules
