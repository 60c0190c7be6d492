-- What stays true in the loop of `ignored::add_others_in_each`.
use Rattle.std.proofs.Common.{◌≡◌, drop}
use Rattle.serde_json.specs.View.{items_view}
use Rattle.json_kinds.specs.JsonKinds.{texts_in}
use Rattle.job_defs.specs.Ignored.{with_names, others_in_each}
use Rattle.job_defs.specs.GatheredNames.{names_of}
use Rattle.job_defs.proofs.ignored.add_others_in_each.Given as goal

abbrev pub invariant-loop-item : goal.invariant-loop-item
invariant-loop-item l =
    with_names (names_of l.names) (others_in_each l.prefix (texts_in l.known) (items_view (drop l.item-index l.items)))
    ≡ with_names (names_of l.fn.names) (others_in_each l.prefix (texts_in l.known) (items_view l.items))
