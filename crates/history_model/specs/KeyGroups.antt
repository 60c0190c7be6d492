-- The keys of a definition in the groups in which they are read and kept, as plain values.
use Rattle.std.specs.Prelude.{ℕ, Bool, List, Option}
use Rattle.history_model.specs.declared.Entry.{Entry}
use Rattle.history_model.specs.declared.definition.parts.PathState.{PathState}
use Rattle.history_model.specs.declared.definition.parts.Variable.{Variable}
use Rattle.history_model.specs.declared.definition.parts.Socket.{Socket}
use Rattle.history_model.specs.Described.{Described}

-- the executable, and the arguments after argv[0]
pub record Command : Type 0 where
  pub program : List ℕ
  pub arguments : List (List ℕ)

-- the keys from `Label` to `Disabled`
pub record Launch : Type 0 where
  pub label : List ℕ
  pub command : Command
  pub run_at_load : Bool
  pub launch_only_once : Bool
  pub disabled : Bool

-- what `KeepAlive` says
pub record Keep : Type 0 where
  pub always : Bool
  pub successful_exit : Option Bool
  pub crashed : Option Bool
  pub path_state : List PathState

-- the keys from `OnDemand` to `StartCalendarInterval`
pub record Demand : Type 0 where
  pub keep : Keep
  pub watch_paths : List (List ℕ)
  pub queue_directories : List (List ℕ)
  pub start_interval : Option ℕ
  pub calendar : List Entry

-- the keys `ThrottleInterval` and `ExitTimeOut`
pub record Pace : Type 0 where
  pub throttle_interval : ℕ
  pub exit_time_out : ℕ

-- the keys from `EnvironmentVariables` to `StandardErrorPath`
pub record Surroundings : Type 0 where
  pub environment : List Variable
  pub working_directory : Option (List ℕ)
  pub standard_in_path : Option (List ℕ)
  pub standard_out_path : Option (List ℕ)
  pub standard_error_path : Option (List ℕ)

-- what all keys give
abbrev pub described : Launch → Demand → Pace → Surroundings → List Socket → List (List ℕ) → Described
described launch demand pace around sockets ignored = record {
  label = launch.label;
  program = launch.command.program;
  arguments = launch.command.arguments;
  run_at_load = launch.run_at_load;
  launch_only_once = launch.launch_only_once;
  disabled = launch.disabled;
  keep_alive = demand.keep.always;
  successful_exit = demand.keep.successful_exit;
  crashed = demand.keep.crashed;
  path_state = demand.keep.path_state;
  watch_paths = demand.watch_paths;
  queue_directories = demand.queue_directories;
  start_interval = demand.start_interval;
  calendar = demand.calendar;
  throttle_interval = pace.throttle_interval;
  exit_time_out = pace.exit_time_out;
  environment = around.environment;
  working_directory = around.working_directory;
  standard_in_path = around.standard_in_path;
  standard_out_path = around.standard_out_path;
  standard_error_path = around.standard_error_path;
  sockets = sockets;
  not_acted_on = ignored;
}
