-- The moment that stays is that of the job.
use Rattle.std.proofs.Common.{refl, sym, ◌∙◌}
use Rattle.timer_heap.proofs.tree.Tree.renew.Goals as goal

pub returns-then-is_same-clause-put : goal.returns-then-is_same-clause-put
returns-then-is_same-clause-put c = record {
  changed = sym c.moment.ensures ∙ c.is_same.ensures c.if-is_same.true;
  others = λ other differ. refl;
  room = refl;
}
