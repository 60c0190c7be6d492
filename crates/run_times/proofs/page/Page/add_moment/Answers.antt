use Rattle.run_times.proofs.GrowingLemmas.{grows_by, grows_on}
use Rattle.run_times.proofs.page.Page.add_moment.Goals as goal

pub returns-after-look : goal.returns-after-look
returns-after-look c = record {
  grows = grows_on c.args.self.now.writer c.put.new.self c.put-in-Ok.new.self
      (grows_by _ c.args.self.now.writer c.put.new.self c.put.ensures.added c.put.ensures.kept)
      (grows_by _ c.put.new.self c.put-in-Ok.new.self c.put-in-Ok.ensures.added c.put-in-Ok.ensures.kept);
}
