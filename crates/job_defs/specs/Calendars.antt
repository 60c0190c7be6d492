-- `StartCalendarInterval` of launchd.plist(5): an entry, or an array of entries. The keys of an
-- entry are gone through in byte order; one that is absent matches everything, as `*` in
-- crontab(5).
use Rattle.std.specs.Prelude.{ℕ, List, [], nat_lt, Result, Ok, Err, Option, if◌then◌else◌}
use Rattle.serde_json.specs.Data.{Data}
use Rattle.serde_json.specs.Events.{items_len}
use Rattle.serde_json.specs.Find.{get}
use Rattle.history_model.specs.declared.Entry.{Entry}
use Rattle.history_model.specs.declared.Reason.TheVariants.{TooLong}
use Rattle.history_model.specs.declared.KeyName.TheVariants.{StartCalendarInterval}
use Rattle.history_model.specs.Machine.{Fault}
use Rattle.history_model.specs.RefusalTexts.{key_text}
use Rattle.json_kinds.specs.DefFaults.{bad, ◌>>=◌}
use Rattle.json_kinds.specs.Names.{Key, day, hour, minute, month, weekday}
use Rattle.json_kinds.specs.JsonKinds.{object_at, integer_at, each_item, members_or_one, where_there, optional}
use Rattle.job_defs.specs.declared.limits.TheConstants.{LIST_LIMIT}

-- one key of an entry
unfoldable pub part : ℕ → ℕ → Key → Data → Result (Option ℕ) Fault
part low high key d = optional (integer_at low high StartCalendarInterval) (get key d)

-- an entry; 0 and 7 are Sunday
unfoldable pub entry_at : Data → Result Entry Fault
entry_at d = do
  parts ← object_at StartCalendarInterval d
  on_day ← part 1 31 day d
  at_hour ← part 0 23 hour d
  at_minute ← part 0 59 minute d
  in_month ← part 1 12 month d
  on_weekday ← part 0 7 weekday d
  Ok (record {
    minute = at_minute;
    hour = at_hour;
    day = on_day;
    weekday = on_weekday;
    month = in_month;
  })

-- at most this number of entries
unfoldable pub calendar_at : Data → Result (List Entry) Fault
calendar_at d =
    if nat_lt LIST_LIMIT (items_len (members_or_one d)) then Err (bad TooLong StartCalendarInterval)
    else each_item entry_at (members_or_one d)

-- without the key there is no calendar
unfoldable pub calendar_key : Data → Result (List Entry) Fault
calendar_key d = where_there calendar_at [] (get (key_text StartCalendarInterval) d)
