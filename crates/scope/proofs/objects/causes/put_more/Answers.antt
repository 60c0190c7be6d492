use Rattle.std.proofs.Common.{[], refl, codes}
use Rattle.run_times.proofs.GrowingLemmas.{adds, adds_none}
use Rattle.scope.proofs.ObjectsLemmas.{told_more, told_all}
use Rattle.scope.proofs.objects.causes.put_more.Goals as goal

pub loop-cause-init : goal.loop-cause-init
loop-cause-init c = ([], refl, adds_none c.args.page.now.writer)

pub loop-cause-preserved : goal.loop-cause-preserved
loop-cause-preserved c =
    let b = c.loop-cause.page.writer in
    let d = c.put.new.self in
    told_more c.loop-cause.cause-index c.args.causes.now _ c.args.page.now.writer b d c.put_cause.new.page.writer c.loop-cause-test.true c.loop-cause.invariant
    (adds (codes ",") b d c.put.ensures.added c.put.ensures.kept) c.put_cause.ensures

pub returns : goal.returns
returns c = told_all c.args.causes.now c.loop-cause.cause-index c.args.page.now.writer c.loop-cause.page.writer c.loop-cause-test.false c.loop-cause.invariant
