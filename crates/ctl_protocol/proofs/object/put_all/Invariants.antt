-- What stays true in the loop of `object::put_all`.
use Rattle.std.proofs.Common.{◌≡◌, drop}
use Rattle.serde_json.specs.View.{members_view}
use Rattle.ctl_protocol.specs.Objects.{with_members, plains_of}
use Rattle.ctl_protocol.proofs.object.put_all.Given as goal

abbrev pub invariant-loop-key : goal.invariant-loop-key
invariant-loop-key l = with_members (members_view l.map.entries) (plains_of (drop l.key-index l.members)) ≡ with_members (members_view l.initial.map.entries) (plains_of l.members)
