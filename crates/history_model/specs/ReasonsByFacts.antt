-- No definition but a tie: what specs/Reasons searches out of a past, computed from its facts
-- alone. On every lawful past the two agree (proofs/ReasonsLemmas).
use Rattle.std.specs.Prelude.{List, ℕ, ◌+◌, ◌*◌, ◌^◌, max, Bool, not, ◌&&◌, ◌||◌, nat_lt, length, Option, Some, None, is_some, if◌then◌else◌}
use Rattle.std.specs.Option.{option_map}
use Rattle.history_model.specs.declared.TheConstants.{SECOND}
use Rattle.history_model.specs.declared.reasons.Wants.{Wants}
use Rattle.history_model.specs.declared.reasons.Reasons.{Reasons}
use Rattle.history_model.specs.Levels.{presence_holds, queue_holds}
use Rattle.history_model.specs.Facts.{Facts}
use Rattle.history_model.specs.DueByFacts.{is_wanted_by, is_throttled_by, any_seen, first_seen}
use Rattle.history_model.specs.Search.{or_else}
use Rattle.history_model.specs.NextMomentByFacts.{coming_period}
use Rattle.history_model.specs.Reasons.{exit_wants, crash_wants, standing_child, not_before}

-- `wants_of`
abbrev pub wants_by : Facts → Wants
wants_by f = record {
  demand = f.has_demand;
  connections = length f.queue;
  keep_alive = f.definition.keep_alive;
  successful_exit = exit_wants f.definition.successful_exit f.ended;
  crashed = crash_wants f.definition.crashed f.has_crashed f.ended;
  path_state = any_seen (λ state. presence_holds state.present) f.definition.path_state f.seen_states;
  queue_directories = any_seen (λ path. queue_holds) f.definition.queue_directories f.seen_queues;
}

-- `path_that_holds`
abbrev pub path_by : Facts → Option (List ℕ)
path_by f =
    or_else (option_map (λ state. state.path)
    (first_seen (λ state. presence_holds state.present) f.definition.path_state f.seen_states))
    (first_seen (λ path. queue_holds) f.definition.queue_directories f.seen_queues)

-- this number of milliseconds after the moment, 0 if there is none
abbrev pub end_after : ℕ → Option ℕ → ℕ
end_after wait None = 0
end_after wait (Some moment) = moment + wait

-- `free_from`
abbrev pub free_by : Facts → ℕ
free_by f =
    max (end_after (SECOND * f.definition.throttle_interval) f.spawn_ordered)
    (end_after SECOND f.spawn_refused)

-- `throttled_until`
abbrev pub throttled_until_by : Facts → ℕ → Option ℕ
throttled_until_by f up = if is_throttled_by f up then Some (free_by f) else None

-- `reasons_of`
abbrev pub reasons_by : Facts → ℕ → Reasons
reasons_by f up = record {
  is_removing = f.is_removing;
  child = option_map (standing_child f.is_stopping f.is_struck) f.living_child;
  awaited = f.awaited_act;
  wants = wants_by f;
  throttled_until = throttled_until_by f up;
  is_launch_spent = f.definition.launch_only_once && f.spawned_before;
  are_runs_spent = not (nat_lt f.run_count (2 ^ 63));
}

-- `needs_event`
abbrev pub needs_by : Facts → Bool
needs_by f =
    f.is_removing || is_some f.living_child || is_some f.awaited_act
    || (f.definition.launch_only_once && f.spawned_before) || not (nat_lt f.run_count (2 ^ 63))

-- `wanted_from`
abbrev pub wanted_from_by : Facts → ℕ → Option ℕ
wanted_from_by f up =
    if is_wanted_by f then Some 0 else coming_period f.definition.start_interval f.load_up up

-- `spawns_from`
abbrev pub spawns_from_by : Facts → ℕ → Option ℕ
spawns_from_by f up =
    if needs_by f then None else not_before (free_by f) (wanted_from_by f up)
