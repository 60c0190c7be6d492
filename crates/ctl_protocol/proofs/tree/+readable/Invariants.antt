-- What stays true in the loops of `tree::readable`.
use Rattle.std.proofs.Common.{◌≡◌, drop, length}
use Rattle.json.specs.Tree.{json_tokens, items_tokens, members_tokens}
use Rattle.json.specs.Value.{value_view, items_view, members_view}
use Rattle.ctl_protocol.specs.Trees.{items_are_readable, members_are_readable}
use Rattle.ctl_protocol.proofs.tree.+readable.Given as goal

abbrev pub decreases-is_readable : goal.decreases-is_readable
decreases-is_readable l = length (json_tokens (value_view l.value.now))

abbrev pub decreases-items_are_readable : goal.decreases-items_are_readable
decreases-items_are_readable l = length (items_tokens (items_view l.items.now.items))

abbrev pub decreases-members_are_readable : goal.decreases-members_are_readable
decreases-members_are_readable l = length (members_tokens (members_view l.members.now.items))

abbrev pub invariant-items_are_readable-loop-item : goal.invariant-items_are_readable-loop-item
invariant-items_are_readable-loop-item l = items_are_readable (items_view (drop l.item-index l.item-items)) ≡ items_are_readable (items_view l.item-items)

abbrev pub invariant-members_are_readable-loop-member : goal.invariant-members_are_readable-loop-member
invariant-members_are_readable-loop-member l = members_are_readable (members_view (drop l.member-index l.member-items)) ≡ members_are_readable (members_view l.member-items)
