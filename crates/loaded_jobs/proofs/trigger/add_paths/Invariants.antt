-- Those that were passed are at the end.
use Rattle.std.proofs.Common.{◌≡◌, ◌++◌, map, take}
use Rattle.loaded_jobs.specs.declared.trigger.Trigger.TheVariants.{Path}
use Rattle.loaded_jobs.proofs.trigger.add_paths.Given as goal

abbrev pub invariant-loop-path : goal.invariant-loop-path
invariant-loop-path l = l.all.items ≡ l.fn.all.items ++ map (Path) (take l.path-index l.paths)
