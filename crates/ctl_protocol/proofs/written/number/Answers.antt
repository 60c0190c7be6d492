-- What the check of `written::number` does not find by itself.
use Rattle.std.proofs.Common.{arith}
use Rattle.ctl_protocol.proofs.WrittenLinesLemmas.{zero_digit, one_digit, more_digits}
use Rattle.ctl_protocol.proofs.written.number.Goals as goal

pub returns-then-first-eq48 : goal.returns-then-first-eq48
returns-then-first-eq48 c = (zero_digit c.in-Some.first.now c.args.bytes.now c.in-Some.others.now c.in-Some.ensures.cases.0 c.if-first-eq48.true, omega arith)

pub loop-next-init : goal.loop-next-init
loop-next-init c = (
  omega (arith, c.if-first-eq48.false, c.if-first-lt48.false),
  one_digit c.in-Some.first.now c.args.bytes.now c.in-Some.others.now c.in-Some.ensures.cases.0 c.if-first-lt48.false c.if-first-gt57.false,
)

pub loop-next-preserved : goal.loop-next-preserved
loop-next-preserved c = (
  omega (arith, c.loop-next.invariant.0),
  more_digits c.loop-next.n c.in-Some-split_first.next.now c.args.bytes.now c.loop-next.rest.now c.in-Some-split_first.more.now c.loop-next.invariant.1 c.in-Some-split_first.ensures.cases.0
      c.loop-next.invariant.0 c.if-next-lt48.false c.if-next-gt57.false (omega (arith, c.if-n-gt-MOST.false, c.if-next-gt57.false)),
)
