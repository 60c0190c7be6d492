-- What the check of `cut::rest_in` does not find by itself.
use Rattle.std.proofs.Common.{arith}
use Rattle.ctl_protocol.proofs.CutLemmas.{rest_within, rest_is}
use Rattle.ctl_protocol.proofs.cut.rest_in.Goals as goal

pub overflow_sub-result : goal.overflow_sub-result
overflow_sub-result c = omega (arith, rest_within c.args.bytes.now, c.requires)

pub returns : goal.returns
returns c = rest_is _ _ c.requires
