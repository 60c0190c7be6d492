use Rattle.run_times.proofs.GrowingLemmas.{grows_none, grows_on}
use Rattle.scope.proofs.texts.cause_lines.add_sentences.Goals as goal

pub loop-form-init : goal.loop-form-init
loop-form-init c = grows_none c.args.page.now.writer

pub loop-form-preserved : goal.loop-form-preserved
loop-form-preserved c = grows_on c.args.page.now.writer c.loop-form.page.writer c.add.new.self.writer c.loop-form.invariant c.add.ensures.grows
