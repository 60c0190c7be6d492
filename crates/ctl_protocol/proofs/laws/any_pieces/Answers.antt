-- What the check of `laws::any_pieces` does not find by itself.
use Rattle.ctl_protocol.proofs.CutLemmas.{lines_joined, rest_joined}
use Rattle.ctl_protocol.proofs.laws.any_pieces.Goals as goal

pub returns : goal.returns
returns c = record { lines = lines_joined; rest = rest_joined }
