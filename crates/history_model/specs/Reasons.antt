-- Why a job has no spawn due (launchd.plist(5): KeepAlive, ThrottleInterval, LaunchOnlyOnce; launchctl(1): unload, stop,
-- kickstart -k). All reasons that hold are listed, not the first alone. That a spawn is due exactly if none of them holds is
-- proved by `laws::every_wait_is_explained`.
use Rattle.std.specs.Prelude.{◌≡◌, ℕ, ◌<◌, ◌^◌, max, Bool, true, false, not, ◌&&◌, ◌||◌, nat_lt, List, [], ◌∷◌, length, Option, Some, None, is_some, if◌then◌else◌}
use Rattle.std.specs.List.{filter, list_any}
use Rattle.std.specs.Option.{option_map}
use Rattle.history_model.specs.declared.Ended.{Ended}
use Rattle.history_model.specs.declared.Act.{Act}
use Rattle.history_model.specs.declared.reasons.Wants.{Wants}
use Rattle.history_model.specs.declared.reasons.StandingChild.{StandingChild}
use Rattle.history_model.specs.declared.reasons.Reasons.{Reasons}
use Rattle.history_model.specs.Items.{History}
use Rattle.history_model.specs.Search.{first, or_else}
use Rattle.history_model.specs.Clock.{now, load_of, definition_of}
use Rattle.history_model.specs.Kinds.{is_stopping_act}
use Rattle.history_model.specs.Runs.{runs, child, awaited, is_stopped, is_struck, is_removed}
use Rattle.history_model.specs.Demands.{is_pending, waiting, last_seen}
use Rattle.history_model.specs.Levels.{last_end, is_success, agrees, crash_of, presence_holds, queue_holds}
use Rattle.history_model.specs.Due.{is_wanted, is_throttled_at, is_throttled, has_ever_spawned}
use Rattle.history_model.specs.Moments.{spawn_moments, next_period}
use Rattle.history_model.specs.declared.Child.{Child}
use Rattle.history_model.specs.declared.LastEnd.{LastEnd}

-- ---- what wants a job

-- there is an end, and it is as the condition SuccessfulExit says
abbrev pub exit_wants : Option Bool → Option LastEnd → Bool
exit_wants successful_exit None = false
exit_wants successful_exit (Some end) = agrees successful_exit (is_success end.how)

-- there is an end, and it is as the condition Crashed says
abbrev pub crash_wants : Option Bool → Bool → Option LastEnd → Bool
crash_wants crashed has_crashed None = false
crash_wants crashed has_crashed (Some end) = agrees crashed has_crashed

-- what wants the job: a pending demand, waiting connections, and each level
abbrev pub wants_of : History → Wants
wants_of t = record {
  demand = is_pending t;
  connections = length (waiting t);
  keep_alive = (definition_of t).keep_alive;
  successful_exit = exit_wants (definition_of t).successful_exit (last_end t);
  crashed = crash_wants (definition_of t).crashed (crash_of t (last_end t)) (last_end t);
  path_state = list_any (λ state. presence_holds state.present (last_seen state.path t))
      (definition_of t).path_state;
  queue_directories = list_any (λ path. queue_holds (last_seen path t))
      (definition_of t).queue_directories;
}

-- something wants it
abbrev pub some_want : Wants → Bool
some_want w =
    w.demand || nat_lt 0 w.connections || w.keep_alive || w.successful_exit || w.crashed
    || w.path_state || w.queue_directories

-- the first path of PathState, in the definition's order, that was last seen as its condition wants it
abbrev pub state_that_holds : History → Option (List ℕ)
state_that_holds t =
    option_map (λ state. state.path)
    (first (filter (λ state. presence_holds state.present (last_seen state.path t))
    (definition_of t).path_state))

-- the first queue directory that was last seen non-empty
abbrev pub queue_that_holds : History → Option (List ℕ)
queue_that_holds t =
    first (filter (λ path. queue_holds (last_seen path t)) (definition_of t).queue_directories)

-- the path that holds the job wanted: the first of PathState, or else the first queue directory
abbrev pub path_that_holds : History → Option (List ℕ)
path_that_holds t = or_else (state_that_holds t) (queue_that_holds t)

-- ---- the throttle

-- the greatest of the moments, 0 if there is none
abbrev pub greatest : List ℕ → ℕ
greatest [] = 0
greatest (m ∷ ms) = max m (greatest ms)

-- the least moment from which the job is not throttled if nothing else happens: the throttle after
-- each spawn order is over then, and a second after each refused spawn
abbrev pub free_from : History → ℕ
free_from t = greatest (spawn_moments t)

-- that moment, if the job is throttled now
abbrev pub throttled_until : History → Option ℕ
throttled_until t = if is_throttled t then Some (free_from t) else None

-- ---- all reasons

-- the child, and whether its end was asked for
abbrev pub standing_child : Bool → Bool → Child → StandingChild
standing_child stopped struck c =
    record { run = c.run; pid = c.pid; is_stopped = stopped; is_struck = struck }

-- what keeps the next spawn from being due
abbrev pub reasons_of : History → Reasons
reasons_of t = record {
  is_removing = is_removed t;
  child = option_map (standing_child (is_stopped t) (is_struck t)) (child t);
  awaited = awaited t;
  wants = wants_of t;
  throttled_until = throttled_until t;
  is_launch_spent = (definition_of t).launch_only_once && has_ever_spawned t;
  are_runs_spent = not (nat_lt (runs t) (2 ^ 63));
}

-- something keeps the spawn from being due; that nothing wants it is such a thing
abbrev pub some_reason : Reasons → Bool
some_reason r =
    r.is_removing || is_some r.child || is_some r.awaited || not (some_want r.wants)
    || is_some r.throttled_until || r.is_launch_spent || r.are_runs_spent

-- nothing keeps it but the throttle
abbrev pub waits_alone : Reasons → Bool
waits_alone r =
    is_some r.throttled_until && not (some_reason (record r { throttled_until = None }))

-- what only an event ends: it is being removed, a run is running, an answer is awaited, or its launches are used up
abbrev pub needs_event : Reasons → Bool
needs_event r =
    r.is_removing || is_some r.child || is_some r.awaited || r.is_launch_spent || r.are_runs_spent

-- there is no order, or it is a TERM or a KILL for the child
abbrev pub is_none_or_stops : Option Child → Option Act → Bool
is_none_or_stops c None = true
is_none_or_stops None (Some act) = false
is_none_or_stops (Some c) (Some act) = is_stopping_act c.run act

-- the moment is the least at which the job is not throttled
abbrev pub IsFirstFree : History → ℕ → Type 0
IsFirstFree t m =
    (is_throttled_at m t ≡ false) × ((up : ℕ) → up < m → is_throttled_at up t ≡ true)

-- ---- when it runs next

-- the later of the two moments, if there is the second
abbrev pub not_before : ℕ → Option ℕ → Option ℕ
not_before free None = None
not_before free (Some m) = Some (max free m)

-- the moment from which the job is wanted, if no calendar entry fires: at once, or from the next
-- end of its interval
abbrev pub wanted_from : History → Option ℕ
wanted_from t =
    if is_wanted t then Some 0
    else first (next_period (definition_of t).start_interval (load_of t).at.up (now t).up)

-- the moment from which a clock reading makes its spawn due, if only the clock goes on and no calendar entry fires. None if the
-- clock alone never makes it due
abbrev pub spawns_from : History → Option ℕ
spawns_from t =
    if needs_event (reasons_of t) then None else not_before (free_from t) (wanted_from t)
