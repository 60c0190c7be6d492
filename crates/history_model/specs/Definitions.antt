-- What a machine of jobs takes of a definition.
use Rattle.std.specs.Prelude.{ℕ, Bool, List, map, length, not, ◌==◌}
use Rattle.history_model.specs.Items.{Definition}
use Rattle.history_model.specs.Machine.{Given}
use Rattle.history_model.specs.Described.{Described}
use Rattle.history_model.specs.declared.definition.parts.Socket.{Socket}

-- there is one at least
abbrev pub has_some : List Socket → Bool
has_some sockets = not (length sockets == 0)

-- there is at least one socket
abbrev pub has_sockets : Described → Bool
has_sockets d = has_some d.sockets

-- what decides when the job runs
abbrev pub definition : Described → Definition
definition d = record {
  run_at_load = d.run_at_load;
  launch_only_once = d.launch_only_once;
  keep_alive = d.keep_alive;
  successful_exit = d.successful_exit;
  crashed = d.crashed;
  path_state = d.path_state;
  watch_paths = d.watch_paths;
  queue_directories = d.queue_directories;
  start_interval = d.start_interval;
  throttle_interval = d.throttle_interval;
  exit_timeout = d.exit_time_out;
  has_sockets = has_sockets d;
  calendar = d.calendar;
  disabled = d.disabled;
}

-- what a load takes of the definition
abbrev pub given : Described → Given
given d = record { label = d.label; definition = definition d; ignored = d.not_acted_on }
