use Rattle.run_times.proofs.GrowingLemmas.{grows_by, grows_on}
use Rattle.run_times.proofs.page.Page.add.Goals as goal

pub loop-part-preserved : goal.loop-part-preserved
loop-part-preserved c =
    let hole = c.add_hole.new.self.writer in
    let rest = c.put-in-loop-part.new.self in
    grows_on c.args.self.now.writer c.loop-part.self.writer rest c.loop-part.invariant
    (grows_on c.loop-part.self.writer hole rest c.add_hole.ensures.grows (grows_by _ hole rest c.put-in-loop-part.ensures.added c.put-in-loop-part.ensures.kept))
