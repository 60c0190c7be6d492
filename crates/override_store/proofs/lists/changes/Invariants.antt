-- The invariants of the loop of `lists::changes`.
use Rattle.std.proofs.Common.{map, take}
use Rattle.std.specs.List.{AllZip}
use Rattle.override_store.specs.Settings.{IsChange, change_of}
use Rattle.override_store.proofs.lists.changes.Given as goal

abbrev pub invariant-loop-row : goal.invariant-loop-row
invariant-loop-row l = AllZip IsChange (take l.row-index l.rows) (map change_of l.all.items)
