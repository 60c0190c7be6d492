-- How the clocks go on after a last clock reading, and what they come to make due.
use Rattle.std.specs.Prelude.{◌≡◌, ℕ, ◌+◌, ◌-◌, ◌*◌, ◌^◌, ◌<◌, ◌≤◌, ◌&&◌, ◌||◌, not, nat_lt, Bool, min, Some, None}
use Rattle.history_model.specs.declared.Reading.{Reading}
use Rattle.history_model.specs.declared.reasons.Reasons.{Reasons}
use Rattle.history_model.specs.declared.TheConstants.{MAX_WALL}
use Rattle.history_model.specs.Calendar.{Zone}
use Rattle.history_model.specs.Clock.{definition_of}
use Rattle.history_model.specs.Due.{has_ever_spawned}
use Rattle.history_model.specs.Items.{History}
use Rattle.history_model.specs.NextRun.{IsNextRun, later}
use Rattle.history_model.specs.Runs.{runs, is_removed}
use Rattle.status_page.specs.declared.clocks.StartWhen.{StartWhen}
use Rattle.status_page.specs.declared.clocks.StartWhen.TheVariants.{Never, Since, At}

-- the clock reading at this second of `wall`, if both clocks went on alike; the last one, if the second
-- is not later
abbrev pub gone_on : Reading → ℕ → Reading
gone_on last wall = later last (min wall MAX_WALL - last.wall)

-- When time alone starts the job with this past, of which `last` is the clock reading. Never: not
-- within what is looked ahead. Since: from this second of `wall` on, which is not after now. At: from
-- this later one on.
abbrev pub StartsSo : Zone → History → ℕ → Reading → ℕ → StartWhen → Type 0
StartsSo zone past ahead last now Never = IsNextRun zone past ahead None
StartsSo zone past ahead last now (Since at) =
    (d : ℕ) × IsNextRun zone past ahead (Some d) × (at ≡ last.wall + d) × (at ≤ now)
StartsSo zone past ahead last now (At at) =
    (d : ℕ) × IsNextRun zone past ahead (Some d) × (at ≡ last.wall + d) × (now < at)

-- a start can come of the load, by what keeps its job from one
abbrev pub can_start : Reasons → Bool
can_start r = not (r.is_removing || r.is_launch_spent || r.are_runs_spent)

-- a start can come of the load: it is not being removed, it was not launched if that is to be once, and
-- its runs are not used up
abbrev pub can_start_again : History → Bool
can_start_again t =
    not (is_removed t || ((definition_of t).launch_only_once && has_ever_spawned t)
    || not (nat_lt (runs t) (2 ^ 63)))
