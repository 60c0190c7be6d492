-- By what a job is throttled, and which second is shown for the end of that.
use Rattle.std.specs.Prelude.{◌≡◌, ℕ, ◌+◌, ◌*◌, ◌==◌, ◌&&◌, Bool, cond, nat_le, Option, Some, None}
use Rattle.history_model.specs.declared.Reading.{Reading}
use Rattle.history_model.specs.declared.TheConstants.{SECOND}
use Rattle.status_page.specs.declared.throttles.ThrottleBy.{ThrottleBy}
use Rattle.status_page.specs.declared.throttles.ThrottleBy.TheVariants.{Order, Refusal, Unknown}
use Rattle.status_page.specs.declared.throttles.ThrottleEnd.{ThrottleEnd}
use Rattle.run_times.specs.Told.{ComesAt}

-- this `up` is the end of the second after the last start that was refused
abbrev pub by_refusal : Option Reading → ℕ → ThrottleBy
by_refusal None until = Unknown
by_refusal (Some at) until = cond (until == at.up + SECOND) (Refusal at) Unknown

-- By what a job is throttled until this `up`. It is its last start, if this is the end of its
-- `ThrottleInterval`, which has this many seconds. Else it is its last refused one, else one that is not
-- kept.
abbrev pub throttled_by : Option Reading → Option Reading → ℕ → ℕ → ThrottleBy
throttled_by None refused throttle until = by_refusal refused until
throttled_by (Some at) refused throttle until =
    cond (until == at.up + SECOND * throttle) (Order at) (by_refusal refused until)

-- at most a second lies between the two
abbrev pub is_near : ℕ → ℕ → Bool
is_near a b = nat_le a (b + 1) && nat_le b (a + 1)

-- the end of a throttle at this `up` is shown as it comes from the start that it is put down to. It is shown
-- as it comes from the last clock reading, if that start is not kept, or a clock was set since.
abbrev pub IsToldFrom : ThrottleBy → ℕ → ThrottleEnd → Type 0
IsToldFrom (Order at) until end =
    (from : ℕ) × ComesAt at until from × (end.told ≡ cond (is_near from end.counted) from end.counted)
IsToldFrom (Refusal at) until end =
    (from : ℕ) × ComesAt at until from × (end.told ≡ cond (is_near from end.counted) from end.counted)
IsToldFrom Unknown until end = end.told ≡ end.counted

-- the end of a throttle: as the clock counts it from the last clock reading, and as it is shown
pub record EndsSo (by : ThrottleBy) (until : ℕ) (last : Reading) (end : ThrottleEnd) : Type 0 where
  pub counted : ComesAt last until end.counted
  pub told : IsToldFrom by until end

-- the second to show for one at which a start comes: that of its throttle's end, if it comes just then
abbrev pub second_told : Option ThrottleEnd → ℕ → ℕ
second_told None at = at
second_told (Some end) at = cond (end.counted == at) end.told at
