-- The goals of `Ending::term_refused` that the prover leaves open.
use Rattle.std.proofs.Common.{rules}
use Rattle.pace.proofs.ending.Ending.term_refused.Goals as goal

pub returns : goal.returns
returns c = search rules
