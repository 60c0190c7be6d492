-- One more answer is made an event, until none remains.
use Rattle.std.proofs.Common.{arith, refl, ◌∙◌}
use Rattle.launcher.proofs.SettlingLemmas.{so-far-start, so-far-turn, so-far-end}
use Rattle.launcher.proofs.host.Host.settle.Goals as goal

pub loop-next-init : goal.loop-next-init
loop-next-init g c = (λ s names waits waiting fits. so-far-start s names waits c.args.self.now.answers c.args.self.now.table _ _ waiting fits, refl)

pub loop-next-preserved : goal.loop-next-preserved
loop-next-preserved g c = (
  λ s names waits waiting fits.
      so-far-turn s names c.args.self.now.answers c.loop-next.self.answers c.handle.new.self.answers c.loop-next.next c.at-pending.result c.loop-next.self.table c.handle.new.self.table
      _ _ _ _ _ _ (omega arith) c.at-pending.ensures (c.loop-next.invariant.0 s names waits waiting fits) c.handle.ensures.handled,
  c.handle.ensures.store ∙ c.loop-next.invariant.1,
)

pub returns-clause-settled : goal.returns-clause-settled
returns-clause-settled g c = λ s names waits waiting fits. so-far-end s names _ _ _ _ _ _ _ _ (c.loop-next.invariant.0 s names waits waiting fits) (omega arith) c.len.ensures.tellable
