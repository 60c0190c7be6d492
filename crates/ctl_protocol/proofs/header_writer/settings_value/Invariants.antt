-- What stays true in the loop of `header_writer::settings_value`.
use Rattle.std.proofs.Common.{◌≡◌, drop}
use Rattle.serde_json.specs.Data.{no_members}
use Rattle.serde_json.specs.View.{members_view}
use Rattle.ctl_protocol.specs.Objects.{with_members}
use Rattle.ctl_protocol.specs.HeaderLines.{setting_members}
use Rattle.ctl_protocol.proofs.header_writer.settings_value.Given as goal

abbrev pub invariant-loop-setting : goal.invariant-loop-setting
invariant-loop-setting l = with_members (members_view l.map.entries) (setting_members (drop l.setting-index l.settings)) ≡ with_members no_members (setting_members l.settings)
