-- What a job's definition says, key by key, as launchd.plist(5) names them. A text or a path is its
-- bytes.
use Rattle.std.specs.Prelude.{ℕ, Bool, List, Option}
use Rattle.history_model.specs.declared.Entry.{Entry}
use Rattle.history_model.specs.declared.definition.parts.PathState.{PathState}
use Rattle.history_model.specs.declared.definition.parts.Variable.{Variable}
use Rattle.history_model.specs.declared.definition.parts.Socket.{Socket}

-- the definition as its getters give it
pub record Described : Type 0 where
  pub label : List ℕ
  pub program : List ℕ  -- the executable, and the child's argv[0]
  pub arguments : List (List ℕ)  -- after argv[0]
  pub run_at_load : Bool
  pub launch_only_once : Bool
  pub disabled : Bool
  pub keep_alive : Bool  -- KeepAlive is true
  pub successful_exit : Option Bool  -- the conditions of KeepAlive
  pub crashed : Option Bool
  pub path_state : List PathState
  pub watch_paths : List (List ℕ)
  pub queue_directories : List (List ℕ)
  pub start_interval : Option ℕ  -- seconds
  pub calendar : List Entry
  pub throttle_interval : ℕ  -- seconds
  pub exit_time_out : ℕ  -- seconds
  pub environment : List Variable
  pub working_directory : Option (List ℕ)
  pub standard_in_path : Option (List ℕ)
  pub standard_out_path : Option (List ℕ)
  pub standard_error_path : Option (List ℕ)
  pub sockets : List Socket
  pub not_acted_on : List (List ℕ)
