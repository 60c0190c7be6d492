-- The entries of a line: each choice of its fields with each of the others.
use Rattle.std.specs.Prelude.{◌≡◌, ℕ, Bool, not, ◌&&◌, ◌++◌, [], ◌∷◌, List, map, Option, Some, None, if◌then◌else◌}
use Rattle.std.specs.List.{flat_map, list_any}
use Rattle.history_model.specs.declared.Entry.{Entry}
use Rattle.history_model.specs.declared.CivilMinute.{CivilMinute}
use Rattle.history_model.specs.Calendar.{matches}
use Rattle.definition_files.specs.Fields.{line_matches}
use Rattle.definition_files.specs.declared.cron.fields.Field.{Field}
use Rattle.definition_files.specs.declared.cron.fields.Fields.{Fields}
use Rattle.definition_files.specs.declared.cron.entries.Part.{Part}
use Rattle.definition_files.specs.declared.cron.entries.Part.TheVariants.{Minute, Hour, Day, Month, Weekday}

-- what an entry may say of a field: nothing, if the field is `*`, or one of its values
abbrev pub choices : Field → List (Option ℕ)
choices field = if field.is_every then None ∷ [] else map (λ value. Some value) field.values.items

-- an entry with a day alone, or with a weekday alone; with none of them it is blank
abbrev pub by_day : Option ℕ → Entry
by_day day = record { minute = None; hour = None; day = day; weekday = None; month = None }

abbrev pub by_weekday : Option ℕ → Entry
by_weekday weekday = record { minute = None; hour = None; day = None; weekday = weekday; month = None }

-- the days that are named by their number
abbrev pub by_days : Fields → List Entry
by_days fields = if fields.days.is_every then [] else map by_day (choices fields.days)

-- the days that are named by their weekday; every day, if none is named at all
abbrev pub by_weekdays : Fields → List Entry
by_weekdays fields =
    if not fields.days.is_every && fields.weekdays.is_every
    then [] else map by_weekday (choices fields.weekdays)

abbrev pub days_of : Fields → List Entry
days_of fields = by_days fields ++ by_weekdays fields

abbrev pub entry_at : Option ℕ → Option ℕ → Option ℕ → Entry → Entry
entry_at minute hour month days = record {
  minute = minute;
  hour = hour;
  day = days.day;
  weekday = days.weekday;
  month = month;
}

abbrev pub of_days : Option ℕ → Option ℕ → Option ℕ → List Entry → List Entry
of_days minute hour month days = map (entry_at minute hour month) days

abbrev pub of_months : Option ℕ → Option ℕ → List (Option ℕ) → List Entry → List Entry
of_months minute hour months days = flat_map (λ month. of_days minute hour month days) months

abbrev pub of_hours : Option ℕ → List (Option ℕ) → List (Option ℕ) → List Entry → List Entry
of_hours minute hours months days = flat_map (λ hour. of_months minute hour months days) hours

-- all entries of a line
abbrev pub entries_of : Fields → List Entry
entries_of fields =
    flat_map (λ minute. of_hours minute (choices fields.hours) (choices fields.months) (days_of fields))
    (choices fields.minutes)

-- a day and a weekday are named, and both have to suit: no entry says that
abbrev pub is_both : Fields → Bool
is_both fields =
    not fields.is_either && (not fields.days.is_every && not fields.weekdays.is_every)

-- exactly the minutes that the line matches are matched by an entry
abbrev pub AreOf : Fields → List Entry → Type 0
AreOf fields entries =
    (at : CivilMinute) → list_any (λ entry. matches entry at) entries ≡ line_matches fields at

-- the entry with this choice for one of its parts
abbrev pub with : Part → Option ℕ → Entry → Entry
with Minute choice entry = record { minute = choice; hour = entry.hour; day = entry.day; weekday = entry.weekday; month = entry.month }
with Hour choice entry = record { minute = entry.minute; hour = choice; day = entry.day; weekday = entry.weekday; month = entry.month }
with Day choice entry = record { minute = entry.minute; hour = entry.hour; day = choice; weekday = entry.weekday; month = entry.month }
with Month choice entry = record { minute = entry.minute; hour = entry.hour; day = entry.day; weekday = entry.weekday; month = choice }
with Weekday choice entry = record { minute = entry.minute; hour = entry.hour; day = entry.day; weekday = choice; month = entry.month }

-- the entries, once for each choice of one of their parts
abbrev pub times : Part → List (Option ℕ) → List Entry → List Entry
times part choices entries = flat_map (λ choice. map (with part choice) entries) choices
