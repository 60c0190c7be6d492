-- The civil minutes that a change of the clock skips or repeats.
use Rattle.std.specs.Prelude.{◌≡◌, ◌<◌, ◌≤◌, ℕ, ◌+◌, ◌*◌, ℤ, pos, ◌+ℤ◌, ◌*ℤ◌, ◌≤ℤ◌}
use Rattle.jiff_core.specs.Calendar.{IsWithin, days_from_civil}
use Rattle.history_model.specs.declared.CivilMinute.{CivilMinute}
use Rattle.calendar_due.specs.Minute.{shown_minute}
use Rattle.calendar_due.specs.Offsets.{Offsets}

-- the second at which the clock changes from one offset to another. Each holds for 200,000 seconds
-- (55 hours) at least, and no offset is past 25:59:59
pub record IsChange (ahead : Offsets) (change : ℕ) (before after : ℤ) : Type 0 where
  pub begun : 200_000 ≤ change
  pub near : (m : ℕ) → IsWithin 93_599 (ahead m)
  pub until : (m : ℕ) → m < change → change ≤ m + 200_000 → ahead m ≡ before
  pub since : (m : ℕ) → change ≤ m → m ≤ change + 200_000 → ahead m ≡ after

-- the seconds that a clock counts up to the start of the civil minute
abbrev pub start_of : CivilMinute → ℤ
start_of at =
    days_from_civil at.year at.month at.day *ℤ pos 86_400 +ℤ pos (at.hour * 3600 + at.minute * 60)

-- the whole civil minute lies in the gap: the clock is set forward over it
pub record IsSkipped (change : ℕ) (before after : ℤ) (at : CivilMinute) : Type 0 where
  pub low : (pos change +ℤ before) ≤ℤ start_of at
  pub high : (start_of at +ℤ pos 60) ≤ℤ (pos change +ℤ after)

-- the whole civil minute lies in the DST overlap: the clock is set back over it. The calendar has such a minute
pub record IsRepeated (change : ℕ) (before after : ℤ) (at : CivilMinute) : Type 0 where
  pub real : shown_minute (start_of at) ≡ at
  pub low : (pos change +ℤ after) ≤ℤ start_of at
  pub high : (start_of at +ℤ pos 60) ≤ℤ (pos change +ℤ before)

-- the two seconds at which the clock begins to show the civil minute: by the offset before the
-- change, and by that after it
pub record AreShowings (first second : ℕ) (before after : ℤ) (at : CivilMinute) : Type 0 where
  pub earlier : (pos first +ℤ before) ≡ start_of at
  pub later : (pos second +ℤ after) ≡ start_of at
