-- The zone that a header names, and the machine that it opens.
use Rattle.std.specs.Prelude.{◌≡◌, ◌≤◌, true, false, length, Option, Some, None, Result, Ok, Err}
use Rattle.std.specs.List.{list_all}
use Rattle.jiff_core.specs.Calendar.{IsWithin}
use Rattle.jiff_tz.specs.PosixReader.{read_whole}
use Rattle.history_model.specs.Labels.{is_label}
use Rattle.history_model.specs.Machine.{State, opened}
use Rattle.history_model.specs.Refusals.{is_clock_refused}
use Rattle.calendar_due.specs.declared.zone.Zone.{Zone}
use Rattle.calendar_due.specs.declared.zone.ZoneFault.{ZoneFault}
use Rattle.calendar_due.specs.declared.zone.ZoneFault.TheVariants as zone_fault
use Rattle.calendar_due.specs.Offsets.{Offsets, always, shown_by}
use Rattle.calendar_due.specs.ZoneRules.{offsets}
use Rattle.calendar_due.specs.Zone.{IsOfRule, IsOfTable, IsBadFile}
use Rattle.calendar_due.specs.declared.zone.TheConstants.{LONGEST_FILE}
use Rattle.loaded_jobs.specs.Tables.{Table}
use Rattle.loaded_jobs.specs.StandsFor.{KeepsState}
use Rattle.loaded_jobs.specs.Opening.{opening_refusal}
use Rattle.ctl_protocol.specs.declared.header.Header.{Header}
use Rattle.ctl_protocol.specs.declared.header.ZoneText.{ZoneText}
use Rattle.ctl_protocol.specs.declared.header.ZoneText.TheVariants.{Posix, Offset, File}
use Rattle.table_opening.specs.declared.opening.OpeningFault.{OpeningFault}
use Rattle.table_opening.specs.declared.opening.OpeningFault.TheVariants.{NoMemory, BadZone, BadLabel, BadReading}

-- the header's zone describes a clock that is so far ahead of UTC, at each second
abbrev pub Describes : ZoneText → Offsets → Type 0
Describes (Posix text) ahead = IsOfRule text ahead
Describes (Offset seconds) ahead = IsWithin 86_399 seconds × (ahead ≡ always seconds)
Describes (File bytes) ahead = (length bytes ≤ LONGEST_FILE) × IsOfTable bytes ahead

-- the header's zone is none
abbrev pub IsNoZone : ZoneText → Type 0
IsNoZone (Posix text) = read_whole text ≡ None
IsNoZone (Offset seconds) = ¬ IsWithin 86_399 seconds
IsNoZone (File bytes) = IsBadFile bytes

-- the zone that the header names, or why there is none
abbrev pub IsTold : ZoneText → Result Zone ZoneFault → Type 0
IsTold text (Ok zone) = Describes text (offsets zone)
IsTold text (Err zone_fault.NoMemory) = Unit {0}
IsTold text (Err zone_fault.BadZone) = IsNoZone text

-- the zone that the header names, if it names one
abbrev pub IsZoneOf : ZoneText → Option Zone → Type 0
IsZoneOf text None = IsNoZone text
IsZoneOf text (Some zone) = Describes text (offsets zone)

-- the machine with the header's reading, in this zone, with the header's settings
abbrev pub opened_by : Header → Offsets → State
opened_by header ahead =
    opened (record {
      reading = header.reading;
      zone = shown_by ahead;
      overrides = header.overrides;
    })

-- the machine that a header opens, in a zone that the header describes
pub record OpensBy (header : Header) (s : State) : Type 0 where
  pub ahead : Offsets
  pub describes : Describes header.zone ahead
  pub state : s ≡ opened_by header ahead

-- a machine that the header opens, which the table represents
pub record StandsOpened (header : Header) (table : Table) : Type 0 where
  pub machine : State
  pub opens : OpensBy header machine
  pub kept : KeepsState table machine
  pub admitted : opening_refusal header.reading header.overrides ≡ None

-- the table of a header, or what is at fault
abbrev pub OpensAs : Header → Result Table OpeningFault → Type 0
OpensAs header (Ok table) = StandsOpened header table
OpensAs header (Err NoMemory) = Unit {0}
OpensAs header (Err BadZone) = IsNoZone header.zone
OpensAs header (Err BadLabel) =
    list_all (λ setting. is_label setting.label) header.overrides ≡ false
OpensAs header (Err BadReading) = is_clock_refused header.reading header.reading ≡ true
