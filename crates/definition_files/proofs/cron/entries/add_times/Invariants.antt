-- What holds at each turn of the loop of `add_times`.
use Rattle.std.proofs.Common.{◌≡◌, ◌++◌, map, take, Some}
use Rattle.definition_files.specs.Entries as spec
use Rattle.definition_files.proofs.cron.entries.add_times.Given as goal

abbrev pub invariant-loop-value : goal.invariant-loop-value
invariant-loop-value l = (l.made.items ≡ l.fn.made.items ++ spec.times l.part (map (λ value. Some value) (take l.value-index l.field.values.items)) l.entries)
