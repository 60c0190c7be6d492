-- The goals of `Ending::term_from` that the prover leaves open.
use Rattle.std.proofs.Common.{arith}
use Rattle.std.proofs.lemmas.Grind.{common_steps}
use Rattle.pace.proofs.ending.Ending.term_from.Goals as goal

pub returns : goal.returns
returns c = grind (arith, common_steps)
