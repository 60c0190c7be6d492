-- The goals of `Ending::kill_from` that the prover leaves open.
use Rattle.std.proofs.Common.{arith}
use Rattle.std.proofs.lemmas.Grind.{common_steps}
use Rattle.pace.proofs.ending.Ending.kill_from.Goals as goal

pub returns-in-None : goal.returns-in-None
returns-in-None c = grind (arith, common_steps)

pub returns-in_err-over : goal.returns-in_err-over
returns-in_err-over c = grind (arith, common_steps)
