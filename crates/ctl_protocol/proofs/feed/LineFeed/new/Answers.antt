-- What the check of `feed::LineFeed::new` does not find by itself.
use Rattle.std.proofs.Common.{[], refl, arith}
use Rattle.ctl_protocol.proofs.CutLemmas.{lines_none, rest_none}
use Rattle.ctl_protocol.proofs.feed.LineFeed.new.Goals as goal

pub invariant_of-result : goal.invariant_of-result
invariant_of-result c = rw (c.new.ensures.items, rest_none []) (refl, omega arith)

pub returns : goal.returns
returns c = rw (c.new.ensures.items, rest_none [], lines_none []) refl
