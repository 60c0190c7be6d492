use Rattle.std.proofs.Common.{[], refl}
use Rattle.run_times.proofs.GrowingLemmas.{adds_none}
use Rattle.scope.proofs.LineLemmas.{told_more, told_all}
use Rattle.scope.proofs.texts.cause_lines.add_lines.Goals as goal

pub loop-cause-init : goal.loop-cause-init
loop-cause-init c = ([], refl, adds_none c.args.page.now.writer)

pub loop-cause-preserved : goal.loop-cause-preserved
loop-cause-preserved c = told_more c.loop-cause.cause-index c.args.causes.now _ c.args.page.now.writer c.loop-cause.page.writer c.add_line.new.page.writer c.loop-cause-test.true c.loop-cause.invariant c.add_line.ensures

pub returns : goal.returns
returns c = told_all c.args.causes.now c.loop-cause.cause-index c.args.page.now.writer c.loop-cause.page.writer c.loop-cause-test.false c.loop-cause.invariant
