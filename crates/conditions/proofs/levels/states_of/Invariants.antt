-- What holds at each turn of the loops of `levels::states_of`, and why each ends.
use Rattle.std.proofs.Common.{◌≡◌, map, take, None}
use Rattle.conditions.specs.States.{wanted_of, last_observation}
use Rattle.conditions.proofs.levels.states_of.Given as goal

abbrev pub invariant-loop-state : goal.invariant-loop-state
invariant-loop-state l = record {
  wanted : map wanted_of l.states.items ≡ take l.state-index l.listed;
  unseen : map last_observation l.states.items ≡ map (λ _. None) (take l.state-index l.listed);
}
