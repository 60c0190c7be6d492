-- The civil minutes that a clock reading crosses.
use Rattle.std.specs.Prelude.{◌≡◌, Bool, true, List, map}
use Rattle.std.specs.List.{list_any}
use Rattle.history_model.specs.declared.Reading.{Reading}
use Rattle.history_model.specs.declared.CivilMinute.{CivilMinute}
use Rattle.history_model.specs.Calendar.{crossed}
use Rattle.history_model.specs.News.{is_some_entry}
use Rattle.calendar_due.specs.ZoneRules.{minute_at}
use Rattle.loaded_jobs.specs.Tables.{Row, Name, Table}

-- some loaded job has calendar entries
abbrev pub has_calendars : List Row → Bool
has_calendars rows = list_any (λ row. is_some_entry row.described.calendar) rows

-- some of the definitions has
abbrev pub some_calendar : List Name → Bool
some_calendar names = list_any (λ name. is_some_entry name.described.calendar) names

-- all that the clock reading crosses in the table's zone, if some loaded job has calendar entries
abbrev pub AreMinutes : Table → Reading → List CivilMinute → Type 0
AreMinutes table at minutes =
    has_calendars table.rows ≡ true →
    minutes ≡ map (minute_at table.zone) (crossed table.reading.wall at.wall)
