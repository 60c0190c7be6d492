-- What the check of `laws::whole_stream` does not find by itself.
use Rattle.ctl_protocol.proofs.CutLemmas.{whole}
use Rattle.ctl_protocol.proofs.laws.whole_stream.Goals as goal

pub returns : goal.returns
returns c = whole
