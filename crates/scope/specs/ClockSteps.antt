-- What a wall clock did besides going on as the launcher's own clock did.
use Rattle.std.specs.Prelude.{ℕ, ◌+◌, ◌-◌, ◌/◌, cond, nat_lt}
use Rattle.history_model.specs.declared.Reading.{Reading}
use Rattle.scope.specs.declared.texts.log_ends.ClockStep.{ClockStep}
use Rattle.scope.specs.declared.texts.log_ends.ClockStep.TheVariants as steps

-- the second that the wall clock shows if it goes on as the launcher's own clock does
abbrev pub second_wanted : Reading → Reading → ℕ
second_wanted before now = before.wall + ((now.up - before.up) / 1000)

-- two seconds of rounding, and a correction of one second in 500
abbrev pub step_least : Reading → Reading → ℕ
step_least before now = (((now.up - before.up) / 1000) / 500) + 2

abbrev pub clock_step : Reading → Reading → ClockStep
clock_step before now =
    cond (nat_lt (step_least before now) (now.wall - second_wanted before now))
    (steps.Ahead (now.wall - second_wanted before now))
    (cond (nat_lt (step_least before now) (second_wanted before now - now.wall))
    (steps.Back (second_wanted before now - now.wall))
    steps.None)
