-- What stays true in the loop of `calendars::each_entry`.
use Rattle.std.proofs.Common.{◌≡◌, drop}
use Rattle.serde_json.specs.View.{items_view}
use Rattle.json_kinds.specs.JsonKinds.{each_item}
use Rattle.job_defs.specs.Calendars.{entry_at}
use Rattle.json_kinds.proofs.KindsLemmas.{with_front}
use Rattle.job_defs.proofs.calendars.each_entry.Given as goal

abbrev pub invariant-loop-item : goal.invariant-loop-item
invariant-loop-item l = with_front l.calendar.items (each_item entry_at (items_view (drop l.item-index l.items))) ≡ each_item entry_at (items_view l.items)
