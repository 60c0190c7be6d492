-- The invariants of the loop of `lists::all_known`.
use Rattle.std.proofs.Common.{take}
use Rattle.std.specs.List.{AllZip}
use Rattle.override_store.specs.KnownSettings.{IsKnown}
use Rattle.override_store.proofs.lists.all_known.Given as goal

abbrev pub invariant-loop-row : goal.invariant-loop-row
invariant-loop-row l = AllZip IsKnown (take l.row-index l.rows) l.all.items
