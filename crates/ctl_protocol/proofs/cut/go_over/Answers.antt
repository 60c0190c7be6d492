-- What the check of `cut::go_over` does not find by itself.
use Rattle.std.proofs.Common.{refl, arith, length-drop}
use Rattle.ctl_protocol.proofs.CutLemmas.{lines_none, rest_none, gone_on, gone_too_far, gone_over}
use Rattle.ctl_protocol.proofs.cut.go_over.Goals as goal

pub lines-init : goal.lines-init
lines-init c = rw (rest_none, lines_none) (omega arith, c.requires, refl, refl)

pub lines-preserved : goal.lines-preserved
lines-preserved c =
    let l = c.lines in
    let found = c.in-Some.ensures.first in
    gone_on c.args.limit c.args.rest.now c.args.piece.now l.begun l.line_len c.in-Some.count l.invariant (omega (arith, c.if-free-count.false)) found.0.high found.0.before found.1

pub returns-then-free-count : goal.returns-then-free-count
returns-then-free-count c =
    let l = c.lines in
    let found = c.in-Some.ensures.first in
    gone_too_far c.args.limit c.args.rest.now c.args.piece.now l.begun l.line_len c.in-Some.count l.invariant c.if-free-count.true (omega (arith, found.0.high)) found.0.before

pub returns : goal.returns
returns c =
    let l = c.lines in
    rw c.over_last.ensures (gone_over c.args.limit c.args.rest.now c.args.piece.now l.begun l.line_len l.invariant (rw (length-drop l.begun c.args.piece.now) at c.in_default.ensures.first))
