-- What stays true in the loop of `written::text`.
use Rattle.std.proofs.Common.{◌≤◌, ◌-◌, length}
use Rattle.ctl_protocol.proofs.WrittenLinesLemmas.{AreUnescaped}
use Rattle.ctl_protocol.proofs.written.text.Given as goal

abbrev pub invariant-loop-at : goal.invariant-loop-at
invariant-loop-at l = (l.at ≤ length l.bytes) × AreUnescaped l.bytes l.at

abbrev pub decreases-loop-at : goal.decreases-loop-at
decreases-loop-at l = length l.bytes - l.at
