-- What stays true in the loop of `cut::go_over`.
use Rattle.std.proofs.Common.{◌-◌, length}
use Rattle.ctl_protocol.proofs.CutLemmas.{Gone}
use Rattle.ctl_protocol.proofs.cut.go_over.Given as goal

abbrev pub invariant-lines : goal.invariant-lines
invariant-lines l = Gone l.limit l.rest l.piece l.begun l.line_len

abbrev pub decreases-lines : goal.decreases-lines
decreases-lines l = length l.piece - l.begun
