-- When a clock first shows a time of a day.
use Rattle.std.specs.Prelude.{◌≡◌, ℕ, ◌+◌, ◌*◌, ◌%◌, ◌<◌, ◌≤◌, Option, Some, None}
use Rattle.history_model.specs.declared.CivilMinute.{CivilMinute}
use Rattle.history_model.specs.Calendar.{Zone}

-- the clock shows that date, and that minute of the day or a later one
abbrev pub IsOn : CivilMinute → CivilMinute → Type 0
IsOn wanted shown =
    (shown.year ≡ wanted.year) × (shown.month ≡ wanted.month) × (shown.day ≡ wanted.day)
    × (60 * wanted.hour + wanted.minute ≤ 60 * shown.hour + shown.minute)

-- m is a whole minute after the one second and not after the other, and the clock shows that then
abbrev pub IsShownIn : Zone → CivilMinute → ℕ → ℕ → ℕ → Type 0
IsShownIn zone wanted after until m =
    (m % 60 ≡ 0) × (after < m) × (m ≤ until) × IsOn wanted (zone m)

-- the least such minute; none if there is none
abbrev pub IsFirstShown : Zone → CivilMinute → ℕ → ℕ → Option ℕ → Type 0
IsFirstShown zone wanted after until None = (n : ℕ) → ¬ IsShownIn zone wanted after until n
IsFirstShown zone wanted after until (Some m) =
    IsShownIn zone wanted after until m × ((n : ℕ) → IsShownIn zone wanted after until n → m ≤ n)
