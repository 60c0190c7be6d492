-- The invariants of the loop of `lists::entries`.
use Rattle.std.proofs.Common.{take}
use Rattle.std.specs.List.{AllZip}
use Rattle.override_store.specs.Settings.{IsEntry}
use Rattle.override_store.proofs.lists.entries.Given as goal

abbrev pub invariant-loop-row : goal.invariant-loop-row
invariant-loop-row l = AllZip IsEntry (take l.row-index l.rows) l.all.items
