-- What stays true in the loop of `members::all_are_keys`.
use Rattle.std.proofs.Common.{◌≡◌, drop}
use Rattle.json.specs.Value.{members_view}
use Rattle.ctl_protocol.specs.Members.{is_key}
use Rattle.json_kinds.specs.JsonKinds.{texts_in}
use Rattle.ctl_protocol.specs.Trees.{keys_pass}
use Rattle.ctl_protocol.proofs.members.all_are_keys.Given as goal

abbrev pub invariant-loop-member : goal.invariant-loop-member
invariant-loop-member l = keys_pass (is_key l.form (texts_in l.keys) (texts_in l.answers)) (members_view (drop l.member-index l.member-items))
    ≡ keys_pass (is_key l.form (texts_in l.keys) (texts_in l.answers)) (members_view l.member-items)
