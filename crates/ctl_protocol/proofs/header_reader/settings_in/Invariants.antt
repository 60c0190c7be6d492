-- What stays true in the loop of `header_reader::settings_in`.
use Rattle.std.proofs.Common.{◌≡◌}
use Rattle.serde_json.specs.View.{members_view}
use Rattle.ctl_protocol.specs.Headers.{settings_of, with_front}
use Rattle.ctl_protocol.proofs.header_reader.settings_in.Given as goal

abbrev pub invariant-loop-label : goal.invariant-loop-label
invariant-loop-label l = with_front l.settings.items (settings_of (members_view l.label-iterator)) ≡ settings_of (members_view l.members.entries)
