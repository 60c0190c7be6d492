-- What an entry asks of the day alone.
use Rattle.std.specs.Prelude.{Bool, ◌&&◌, ◌==◌, ◌≡◌, ◌≤◌, ◌<◌, ◌*◌, ℕ, pos, List, Option, Some, None, false, ⊤}
use Rattle.std.specs.List.{list_any}
use Rattle.history_model.specs.declared.Entry.{Entry}
use Rattle.history_model.specs.declared.CivilMinute.{CivilMinute}
use Rattle.history_model.specs.Calendar.{allows, allows_day}
use Rattle.calendar_due.specs.Minute.{shown_minute}

-- the entry's month, day and weekday suit the minute
abbrev pub is_on_day : Entry → CivilMinute → Bool
is_on_day entry at = allows entry.month at.month && allows_day entry.day entry.weekday at

-- two minutes have one month, one day and one weekday
abbrev pub is_same_day : CivilMinute → CivilMinute → Bool
is_same_day one other =
    one.month == other.month && one.day == other.day && one.weekday == other.weekday

-- the minute is of the day of that one, if there is one
abbrev pub is_of_day : Option CivilMinute → CivilMinute → Bool
is_of_day None minute = false
is_of_day (Some other) minute = is_same_day other minute

-- no entry is on the day of this minute, if there is one
abbrev pub IsIdle : List Entry → Option CivilMinute → Type 0
IsIdle entries None = ⊤
IsIdle entries (Some at) = list_any (λ entry. is_on_day entry at) entries ≡ false

-- some entry is on the day, of those that are counted from 1970
abbrev pub is_some_on : List Entry → ℕ → Bool
is_some_on entries day =
    list_any (λ entry. is_on_day entry (shown_minute (pos (day * 86_400)))) entries

-- no entry is on a day from the one on and before the other
abbrev pub AreIdle : List Entry → ℕ → ℕ → Type 0
AreIdle entries from before =
    (day : ℕ) → from ≤ day → day < before → is_some_on entries day ≡ false
