-- Those that were passed are at the end.
use Rattle.std.proofs.Common.{◌≡◌, ◌++◌, map, take}
use Rattle.loaded_jobs.specs.declared.trigger.Trigger.TheVariants.{Path}
use Rattle.loaded_jobs.proofs.trigger.add_states.Given as goal

abbrev pub invariant-loop-state : goal.invariant-loop-state
invariant-loop-state l = l.all.items ≡ l.fn.all.items ++ map (λ state. Path state.path) (take l.state-index l.states)
