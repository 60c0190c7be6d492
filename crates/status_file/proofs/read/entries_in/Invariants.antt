-- What stays true in the loop of `entries_in`.
use Rattle.std.proofs.Common.{map, take}
use Rattle.std.specs.List.{AllZip}
use Rattle.serde_json.specs.View.{view}
use Rattle.status_file.specs.Readings.{EntryAt}
use Rattle.status_file.proofs.read.entries_in.Given as goal

abbrev pub invariant-loop-item : goal.invariant-loop-item
invariant-loop-item l = AllZip EntryAt (map view (take l.item-index l.list)) l.entries.items
