-- One more order is carried out. What is expected before it is no call.
use Rattle.std.proofs.Common.{sym, subst, ◌∙◌}
use Rattle.launcher.proofs.ExecuteLemmas.{turn-more-between, IsKept}
use Rattle.launcher.proofs.orders.execute_all.Goals as goal
use Rattle.launcher.proofs.orders.execute_all.Given as premise
use Rattle.launcher.proofs.orders.execute_all.Goals.{in-Some, in-None}

kept : (g : premise.Over) (c : goal.Joined-execute g) → IsKept c.execute.result c.loop-order.answers c.match-execute.answers
kept g c = elim c.match-execute.branch [
  | in-Some w ↦ subst (λ o. IsKept o c.loop-order.answers c.match-execute.answers) (sym w.in-Some.is) (λ room. w.answers-is ∙ w.keep.ensures room)
  | in-None w ↦ subst (λ o. IsKept o c.loop-order.answers c.match-execute.answers) (sym w.in-None.is) w.answers-is
]

pub loop-order-preserved : goal.loop-order-preserved
loop-order-preserved g c =
    turn-more-between c.args.step.now.orders.now c.loop-order.order-index _ c.args.answers.now c.loop-order.answers c.match-execute.answers
    c.execute.result _ _ _ _ c.loop-order-test.true c.loop-order.invariant c.expect_at.ensures c.execute.ensures.executes (kept g c)
