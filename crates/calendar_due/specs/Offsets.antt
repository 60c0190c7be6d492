-- How far a clock is ahead of UTC, and the civil minute that it shows.
use Rattle.std.specs.Prelude.{ℕ, ℤ, pos, ◌+ℤ◌, ◌*ℤ◌}
use Rattle.history_model.specs.Calendar.{Zone}
use Rattle.calendar_due.specs.Minute.{shown_minute}

-- the seconds by which a clock is ahead of UTC, at each second of Unix time
abbrev pub Offsets : Type 0
Offsets = ℕ → ℤ

-- what a clock counts at a second of Unix time: the seconds since it showed 1970-01-01T00:00:00,
-- had it never been changed
abbrev pub clock_seconds : Offsets → ℕ → ℤ
clock_seconds ahead second = pos second +ℤ ahead second

-- the civil minute that a clock shows at each second of Unix time
unfoldable pub shown_by : Offsets → Zone
shown_by ahead second = shown_minute (clock_seconds ahead second)

-- an offset that never changes
abbrev pub always : ℤ → Offsets
always seconds second = seconds

-- a second of Unix time in nanoseconds
abbrev pub nanos_at : ℕ → ℤ
nanos_at second = pos second *ℤ pos 1_000_000_000
