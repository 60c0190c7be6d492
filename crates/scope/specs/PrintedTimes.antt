-- The second of Unix time of a printed time with an offset.
use Rattle.std.specs.Prelude.{ℕ, ◌+◌, ◌-◌, nat_le, Option, Some, None, if◌then◌else◌}
use Rattle.history_model.specs.declared.TheConstants.{MAX_WALL}
use Rattle.scope.specs.declared.printed_times.ClockOffset.{ClockOffset}
use Rattle.scope.specs.declared.printed_times.ClockOffset.TheVariants.{Ahead, After}

-- the second, if it is not later than a clock may show
abbrev pub within_limit : ℕ → Option ℕ
within_limit second = if nat_le second MAX_WALL then Some second else None

-- A clock of UTC shows it at this second. A clock that is ahead shows it earlier by its offset, one that is after it later; none does before 1970.
abbrev pub second_by_utc : ℕ → ClockOffset → Option ℕ
second_by_utc second (Ahead offset) = if nat_le offset second then within_limit (second - offset) else None
second_by_utc second (After offset) = within_limit (second + offset)
