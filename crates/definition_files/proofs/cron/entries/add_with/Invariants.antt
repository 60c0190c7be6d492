-- What holds at each turn of the loop of `add_with`.
use Rattle.std.proofs.Common.{◌≡◌, ◌++◌, map, take}
use Rattle.definition_files.specs.Entries as spec
use Rattle.definition_files.proofs.cron.entries.add_with.Given as goal

abbrev pub invariant-loop-entry : goal.invariant-loop-entry
invariant-loop-entry l = (l.made.items ≡ l.fn.made.items ++ map (spec.with l.part l.choice) (take l.entry-index l.entries))
