-- What the check of `cut::newline_from` does not find by itself.
use Rattle.std.proofs.Common.{◌-◌, length, drop, arith, length-drop, take_all}
use Rattle.ctl_protocol.proofs.CutLemmas.{within_piece}
use Rattle.ctl_protocol.proofs.cut.newline_from.Goals as goal

pub returns-clause-first : goal.returns-clause-first
returns-clause-first c =
    let piece = c.args.piece.now in
    let begun = c.args.begun in
    rw (take_all (length piece - begun) (drop begun piece) (omega (arith, length-drop begun piece))) at c.memchr.ensures

pub returns-clause-within : goal.returns-clause-within
returns-clause-within c =
    let piece = c.args.piece.now in
    let begun = c.args.begun in
    within_piece piece begun c.memchr.result (rw (take_all (length piece - begun) (drop begun piece) (omega (arith, length-drop begun piece))) at c.memchr.ensures)
