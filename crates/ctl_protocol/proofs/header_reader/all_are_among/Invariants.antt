-- What stays true in the loop of `header_reader::all_are_among`.
use Rattle.std.proofs.Common.{◌≡◌}
use Rattle.serde_json.specs.View.{members_view}
use Rattle.json_kinds.specs.JsonKinds.{texts_in}
use Rattle.ctl_protocol.specs.Headers.{are_among}
use Rattle.ctl_protocol.proofs.header_reader.all_are_among.Given as goal

abbrev pub invariant-loop-key : goal.invariant-loop-key
invariant-loop-key l = are_among (texts_in l.keys) (members_view l.key-iterator) ≡ are_among (texts_in l.keys) (members_view l.members.entries)
