-- What stays true in the loop of `demand::each_path`.
use Rattle.std.proofs.Common.{◌≡◌, drop, vec_len}
use Rattle.serde_json.specs.View.{items_view}
use Rattle.json_kinds.specs.JsonKinds.{each_item, path_at}
use Rattle.json_kinds.proofs.KindsLemmas.{with_front}
use Rattle.job_defs.proofs.demand.each_path.Given as goal

abbrev pub invariant-loop-item : goal.invariant-loop-item
invariant-loop-item l =
    (vec_len l.paths ≡ l.item-index)
    × (with_front l.paths.items (each_item (path_at l.key) (items_view (drop l.item-index l.items))) ≡ each_item (path_at l.key) (items_view l.items))
