-- Which minutes the fields of a line match (crontab(5)).
use Rattle.std.specs.Prelude.{ℕ, Bool, not, ◌&&◌, ◌||◌, ◌==◌, ◌%◌, if◌then◌else◌}
use Rattle.std.specs.List.{list_any}
use Rattle.history_model.specs.declared.CivilMinute.{CivilMinute}
use Rattle.definition_files.specs.declared.cron.fields.Field.{Field}
use Rattle.definition_files.specs.declared.cron.fields.Fields.{Fields}

-- the value is one of the field's; a field that is `*` has each
abbrev pub has : Field → ℕ → Bool
has field n = field.is_every || list_any (λ value. value == n) field.values.items

-- the weekday is one of the field's; both 0 and 7 are Sunday
abbrev pub has_weekday : Field → ℕ → Bool
has_weekday field n = field.is_every || list_any (λ value. value % 7 == n) field.values.items

-- the day suits by its number and by its weekday; by either of them, if both fields name days and
-- neither begins with `*`
abbrev pub suits_day : Fields → CivilMinute → Bool
suits_day fields at =
    if not fields.days.is_every && not fields.weekdays.is_every && fields.is_either
    then has fields.days at.day || has_weekday fields.weekdays at.weekday
    else has fields.days at.day && has_weekday fields.weekdays at.weekday

-- a line matches a civil minute if each of its fields does
abbrev pub line_matches : Fields → CivilMinute → Bool
line_matches fields at =
    has fields.minutes at.minute && has fields.hours at.hour && has fields.months at.month
    && suits_day fields at
