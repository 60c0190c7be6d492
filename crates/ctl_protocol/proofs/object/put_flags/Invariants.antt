-- What stays true in the loop of `object::put_flags`.
use Rattle.std.proofs.Common.{◌≡◌, drop}
use Rattle.serde_json.specs.View.{members_view}
use Rattle.ctl_protocol.specs.Objects.{with_members, flags_of}
use Rattle.ctl_protocol.proofs.object.put_flags.Given as goal

abbrev pub invariant-loop-key : goal.invariant-loop-key
invariant-loop-key l = with_members (members_view l.map.entries) (flags_of (drop l.key-index l.flags)) ≡ with_members (members_view l.initial.map.entries) (flags_of l.flags)
