-- What both sources of a launcher say of a label together: its status file has the present, and its journal the past.
use Rattle.std.specs.Borrow.{Bor}
use Rattle.std.specs.Option.{option_map}
use Rattle.std.specs.Prelude.{◌==◌, ◌&&◌, ℕ, List, nat_lt, Bool, true, false, Option, Some, None, if◌then◌else◌}
use Rattle.history_model.specs.declared.Reading.{Reading}
use Rattle.run_log.specs.declared.facts.RefusedStart.{RefusedStart}
use Rattle.status_file.specs.declared.status.DisabledBy.{DisabledBy as DisabledNow}
use Rattle.status_file.specs.declared.status.DisabledBy.TheVariants as now
use Rattle.scope.specs.declared.journal.labels.DisabledBy.{DisabledBy}
use Rattle.scope.specs.declared.journal.labels.DisabledBy.TheVariants as journals
use Rattle.scope.specs.declared.joined.Disabled.{Disabled}
use Rattle.scope.specs.declared.joined.Disabled.TheVariants.{Client, Since, Before, Unknown, Definition}
use Rattle.scope.specs.declared.joined.LabelNow.{LabelNow}
use Rattle.scope.specs.declared.joined.LabelPast.{LabelPast}
use Rattle.scope.specs.declared.kept_journals.TheConstants.{MOST_BYTES}
use Rattle.scope.specs.declared.known_runs.KnownRuns.{KnownRuns}

-- ---- whether a journal is read besides a status file

-- its length, if that is known, is more than 32 MiB
abbrev pub is_long : Option ℕ → Bool
is_long None = false
is_long (Some length) = nat_lt MOST_BYTES length

-- ---- by what a label is disabled

-- after a further request, by which a label is disabled or enabled: it stays disabled by the first one
abbrev pub setting_kept : Option DisabledBy → Option DisabledBy → Option DisabledBy
setting_kept before None = None
setting_kept None (Some by) = Some by
setting_kept (Some first) (Some by) = Some first

-- by a journal: who disabled it and when, or that it was so before the first event
abbrev pub setting_told : Option DisabledBy → Option Disabled
setting_told None = None
setting_told (Some journals.Header) = Some Before
setting_told (Some (journals.Client asked at)) = Some (Client asked at)

-- what a journal says of a setting, if one was read
abbrev pub setting_in : Option LabelPast → Option Disabled
setting_in None = None
setting_in (Some past) = setting_told past.disabled

-- the status file is later than the journal's last event, or no journal was read
abbrev pub is_later : Option LabelPast → LabelNow → Bool
is_later None file = true
is_later (Some past) file = nat_lt past.last.up file.at.up

-- since when a setting disables it: by the journal, which says who did it too; else by the status file
abbrev pub since_else : Option Reading → Disabled → Disabled
since_else (Some at) other = Since at
since_else None other = other

abbrev pub since_setting : Disabled → Option Reading → Disabled
since_setting (Client asked by) at = Client asked by
since_setting before at = since_else at before

abbrev pub since_told : Option Disabled → Option Reading → Disabled
since_told (Some setting) at = since_setting setting at
since_told None at = since_else at Unknown

-- by the status file, with what the journal says of the setting
abbrev pub disabled_now : Option DisabledNow → Option Reading → Option Disabled → Option Disabled
disabled_now None at setting = None
disabled_now (Some now.Definition) at setting = Some Definition
disabled_now (Some now.Override) at setting = Some (since_told setting at)

-- by the journal; of a definition that has Disabled only the status file says that it is loaded
abbrev pub or_definition : Option Disabled → Option DisabledNow → Option Disabled
or_definition (Some setting) file = Some setting
or_definition None (Some now.Definition) = Some Definition
or_definition None (Some now.Override) = None
or_definition None None = None

-- Whether a label is disabled the later source says: the status file, or the journal if that has later events. Who did it, and when, is
-- the journal's, if it says it.
abbrev pub disabled_joined : Option LabelPast → Option LabelNow → Option Disabled
disabled_joined past None = setting_in past
disabled_joined past (Some file) =
    if is_later past file then disabled_now file.disabled file.disabled_at (setting_in past)
    else or_definition (setting_in past) file.disabled

-- ---- why a start was refused

-- the start of a journal has the system's reason of the status file, if that tells of the same start
abbrev pub start_joined : RefusedStart → Option RefusedStart → RefusedStart
start_joined start None = start
start_joined start (Some other) = if other.run == start.run then record start { reason = other.reason } else start

abbrev pub refused_in : Option LabelNow → Option RefusedStart
refused_in None = None
refused_in (Some file) = file.refused

-- The reason of a start that was refused by a journal, with this number and at this clock reading. The status file has it if its last refused start
-- has both: numbers begin again with each load, and a journal has earlier refused starts too.
abbrev pub reason_joined : ℕ → Reading → Option RefusedStart → Option (Bor (List ℕ))
reason_joined run at None = None
reason_joined run at (Some other) = if other.run == run && other.at.up == at.up then other.reason else None

-- the runs of a journal, with that reason
abbrev pub runs_joined : KnownRuns → Option LabelNow → KnownRuns
runs_joined runs file = record runs { refused = option_map (λ start. start_joined start (refused_in file)) runs.refused }
