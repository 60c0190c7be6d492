-- What holds at each turn of the loops of `levels::see`, and why each ends.
use Rattle.std.proofs.Common.{◌≡◌}
use Rattle.conditions.specs.States.{after_observation}
use Rattle.history_model.proofs.WrittenLemmas.{written}
use Rattle.conditions.proofs.levels.see.Given as goal

abbrev pub invariant-loop-state : goal.invariant-loop-state
invariant-loop-state l = l.state-items ≡ written (after_observation l.path l.obs) l.state-index l.fn.states.items
