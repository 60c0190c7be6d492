-- The type of a byte bounds it.
use Rattle.std.proofs.Common.{arith}
use Rattle.launcher.proofs.HeaderLemmas.{are_bytes}
use Rattle.launcher.proofs.lent_facts.lend_bytes.Goals as goal

pub returns : goal.returns
returns c = are_bytes c.args.bytes.now (λ i. let f = c.type_inv.bytes i in omega arith)
