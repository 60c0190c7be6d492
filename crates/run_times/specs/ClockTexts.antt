-- What a clock shows, as RFC 3339 writes it.
use Rattle.std.specs.Prelude.{◌≡◌, ℕ, ◌++◌, ◌||◌, ◌&&◌, ◌==◌, ◌/◌, ◌%◌, nat_le, Bool, true, List, codes, unsigned_abs}
use Rattle.std.specs.Fmt.{decimal}
use Rattle.std.specs.List.{list_all}
use Rattle.history_model.specs.declared.CivilMinute.{CivilMinute}
use Rattle.run_times.specs.declared.writer.TextWriter.{TextWriter}
use Rattle.run_times.specs.Written.{Adds}

-- a digit, or one of the signs of a time: + - : T
abbrev pub is_clock_char : ℕ → Bool
is_clock_char c = (nat_le 48 c && nat_le c 58) || (c == 43 || (c == 45 || c == 84))

-- the last two digits of a number
abbrev pub two_digits : ℕ → List ℕ
two_digits n = decimal (n / 10 % 10) ++ decimal (n % 10)

-- the day, of a year of four digits: 2026-11-29
abbrev pub date_text : CivilMinute → List ℕ
date_text at =
    two_digits (unsigned_abs at.year / 100) ++ (two_digits (unsigned_abs at.year % 100)
    ++ (codes "-" ++ (two_digits at.month ++ (codes "-" ++ two_digits at.day))))

-- the time of the day, with the second: T03:30:00
abbrev pub hour_text : CivilMinute → ℕ → List ℕ
hour_text at second =
    codes "T" ++ (two_digits at.hour ++ (codes ":" ++ (two_digits at.minute ++ (codes ":" ++ two_digits (second % 60)))))

-- the offset, of this number of minutes: +01:00
abbrev pub offset_text : List ℕ → ℕ → List ℕ
offset_text sign minutes = sign ++ (two_digits (minutes / 60) ++ (codes ":" ++ two_digits (minutes % 60)))

-- The text of a second at which a clock shows this minute: its day and time, and an offset after them. None of it can
-- end a text of JSON, nor has a meaning there.
pub record IsClockText (at : CivilMinute) (second : ℕ) (text : List ℕ) : Type 0 where
  pub offset : List ℕ
  pub whole : text ≡ date_text at ++ (hour_text at second ++ offset)
  pub plain : list_all is_clock_char text ≡ true

-- it follows what was written before
abbrev pub TellsClock : CivilMinute → ℕ → TextWriter → TextWriter → Type 0
TellsClock at second old new = (text : List ℕ) × IsClockText at second text × Adds text old new
