-- What a zone says, whichever kind of rules it keeps.
use Rattle.jiff.specs.ZoneView.{plain_zone}
use Rattle.jiff_tz.specs.Zone.{offset_at}
use Rattle.history_model.specs.Calendar.{Zone as Minutes}
use Rattle.calendar_due.specs.Offsets.{Offsets, nanos_at, shown_by}
use Rattle.calendar_due.specs.Zone.{offsets_of_table}
use Rattle.calendar_due.specs.declared.zone.Zone.{Zone}
use Rattle.calendar_due.specs.declared.zone.Rules.{Rules}
use Rattle.calendar_due.specs.declared.zone.Rules.TheVariants.{Plain, Table}

-- the offsets of the rules
abbrev pub offsets_by : Rules → Offsets
offsets_by (Plain zone) second = offset_at (plain_zone zone) (nanos_at second)
offsets_by (Table table) second = offsets_of_table table second

-- the seconds by which a clock in the zone is ahead of UTC, at each second of Unix time
unfoldable pub offsets : Zone → Offsets
offsets zone = offsets_by zone.rules

-- the civil minute in the zone at each second of Unix time
unfoldable pub minute_at : Zone → Minutes
minute_at zone = shown_by (offsets zone)
