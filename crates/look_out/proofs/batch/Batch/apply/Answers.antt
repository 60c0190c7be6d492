-- The answer is that of the question which waited.
use Rattle.std.proofs.Common.{◌≡◌, subst, sym}
use Rattle.look_out.specs.Batches.{IsDecidedAt}
use Rattle.look_out.specs.declared.batch.Seen.TheVariants.{Answered}
use Rattle.look_out.proofs.batch.Batch.apply.Goals as goal

pub returns : goal.returns
returns c = λ done. subst (λ e. IsDecidedAt c.args.self.now.next (Answered c.args.answer) c.args.self.now.entries.items e.items) (sym c.pass.ensures) (c.decide-is_asked.ensures.decided done)
