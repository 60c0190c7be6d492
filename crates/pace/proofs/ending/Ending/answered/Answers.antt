-- The goals of `Ending::answered` that the prover leaves open.
use Rattle.std.proofs.Common.{rules}
use Rattle.pace.proofs.ending.Ending.answered.Goals as goal

pub returns-in-Term : goal.returns-in-Term
returns-in-Term c = search rules
