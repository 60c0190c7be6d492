-- The facts of a past, as the fields and the parts of a job's core keep them.
use Rattle.std.specs.Prelude.{ℕ, ◌==◌, Bool, false, Option, Some, is_some}
use Rattle.history_model.specs.declared.Act.{Act}
use Rattle.history_model.specs.declared.Act.TheVariants.{Spawn}
use Rattle.history_model.specs.Facts.{Facts}
use Rattle.history_model.specs.Items.{Definition}
use Rattle.job_core.specs.declared.job.Job.{Job}

-- the definition that the fields keep
abbrev pub definition_kept : Job → Definition
definition_kept c = record {
  run_at_load = c.run_at_load;
  launch_only_once = c.launch_only_once;
  keep_alive = c.conditions.keep_alive;
  successful_exit = c.conditions.successful_exit;
  crashed = c.conditions.crashed;
  path_state = c.conditions.path_state;
  watch_paths = c.watches.paths;
  queue_directories = c.queues.paths;
  start_interval = c.interval.seconds;
  throttle_interval = c.throttle.seconds;
  exit_timeout = c.ending.timeout;
  has_sockets = c.has_sockets;
  calendar = c.calendar;
  disabled = c.disabled;
}

-- the facts that the fields keep
abbrev pub facts : Job → Facts
facts c = record {
  definition = definition_kept c;
  load_up = c.interval.load_up;
  run_count = c.runs;
  living_child = c.child;
  awaited_act = c.awaited;
  has_demand = is_some c.demand;
  has_new_demand = is_some c.new_demand;
  demand = c.demand;
  new_demand = c.new_demand;
  queue = c.waiting;
  last_number = c.last_number;
  ended = c.conditions.ended;
  has_crashed = c.conditions.has_crashed;
  seen_watched = c.watches.seen;
  seen_states = c.conditions.seen;
  seen_queues = c.queues.seen;
  spawn_ordered = c.throttle.order;
  spawn_refused = c.throttle.refusal;
  term_ordered = c.ending.term_ordered;
  term_refused = c.ending.term_refused;
  kill_refused = c.ending.kill_refused;
  is_term_done = c.ending.is_term_done;
  is_kill_done = c.ending.is_kill_done;
  is_ordered_to_end = c.is_ordered_to_end;
  spawned_before = c.spawned_before;
  is_stopping = c.is_stopping;
  is_struck = c.ending.is_struck;
  is_removing = c.is_removing;
}

-- the run's spawn is the order whose answer is awaited
abbrev pub is_spawn_awaited : Option Act → ℕ → Bool
is_spawn_awaited (Some (Spawn run conn)) r = run == r
is_spawn_awaited _ r = false
