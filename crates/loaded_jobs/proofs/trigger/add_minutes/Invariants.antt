-- Those that were passed are at the end.
use Rattle.std.proofs.Common.{◌≡◌, ◌++◌, map, take}
use Rattle.loaded_jobs.specs.declared.trigger.Trigger.TheVariants.{Minute}
use Rattle.loaded_jobs.proofs.trigger.add_minutes.Given as goal

abbrev pub invariant-loop-due : goal.invariant-loop-due
invariant-loop-due l = l.all.items ≡ l.fn.all.items ++ map (λ due. Minute due.minute) (take l.due-index l.calendar)
