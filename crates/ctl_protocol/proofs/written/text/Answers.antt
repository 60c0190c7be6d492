-- What the check of `written::text` does not find by itself.
use Rattle.std.proofs.Common.{arith}
use Rattle.ctl_protocol.proofs.WrittenLinesLemmas.{unescaped_more}
use Rattle.ctl_protocol.proofs.written.text.Goals as goal

pub loop-at-preserved : goal.loop-at-preserved
loop-at-preserved c = (
  omega (arith, c.loop-at-test.true),
  unescaped_more c.args.bytes.now c.loop-at.at c.loop-at-test.true c.if-bytes-at-ne34.true c.if-bytes-at-eq92.false c.if-bytes-at-lt32.false c.loop-at.invariant.1,
)
