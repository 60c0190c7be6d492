-- The keys of a definition, one by one, in the order in which they are checked. They are those of
-- launchd.plist(5); the first key with a fault is the answer.
use Rattle.std.specs.Prelude.{ℕ, ◌+◌, List, length, true, false, Option, Result, Ok, ⊤}
use Rattle.serde_json.specs.Data.{Data}
use Rattle.serde_json.specs.Find.{as_object}
use Rattle.history_model.specs.declared.Reason.TheVariants.{NotJson, NotObject}
use Rattle.history_model.specs.declared.KeyName.TheVariants.{NoKey, Program, RunAtLoad, LaunchOnlyOnce, DisabledKey, OnDemand, WatchPaths, QueueDirectories, StartInterval, ThrottleInterval, ExitTimeOut, WorkingDirectory, StandardInPath, StandardOutPath, StandardErrorPath, UserName, GroupName, RootDirectory}
use Rattle.history_model.specs.Machine.{Fault}
use Rattle.history_model.specs.Described.{Described}
use Rattle.history_model.specs.Definitions.{has_some}
use Rattle.history_model.specs.KeyGroups.{Launch, Demand, Pace, Surroundings, described}
use Rattle.json_kinds.specs.DefFaults.{bad, or_fault, ◌>>=◌}
use Rattle.json_kinds.specs.Json.{json_in}
use Rattle.json_kinds.specs.JsonKinds.{bool_key, integer_key, optional_integer, optional_text, optional_path, refused_key}
use Rattle.job_defs.specs.Commands.{label_key, command_key}
use Rattle.job_defs.specs.Conditions.{keep_key}
use Rattle.job_defs.specs.Paths.{paths_key}
use Rattle.job_defs.specs.Calendars.{calendar_key}
use Rattle.job_defs.specs.Variables.{environment_key}
use Rattle.job_defs.specs.Sockets.{sockets_and_inetd}
use Rattle.job_defs.specs.Ignored.{not_acted_on}

-- ---- what is run

-- `Label` to `Disabled`
unfoldable pub launch_at : Data → Result Launch Fault
launch_at d = do
  label ← label_key d
  program ← optional_text 4096 Program d
  command ← command_key program d
  run ← bool_key false RunAtLoad d
  once ← bool_key false LaunchOnlyOnce d
  disabled ← bool_key false DisabledKey d
  Ok (record {
    label = label;
    command = command;
    run_at_load = run;
    launch_only_once = once;
    disabled = disabled;
  })

-- ---- when it runs

-- `OnDemand` to `StartCalendarInterval`
unfoldable pub demand_at : Data → Result Demand Fault
demand_at d = do
  on_demand ← bool_key true OnDemand d
  keep ← keep_key on_demand d
  watch ← paths_key (length keep.path_state) WatchPaths d
  queue ← paths_key (length keep.path_state + length watch) QueueDirectories d
  interval ← optional_integer 1 31536000 StartInterval d
  calendar ← calendar_key d
  Ok (record {
    keep = keep;
    watch_paths = watch;
    queue_directories = queue;
    start_interval = interval;
    calendar = calendar;
  })

-- ---- how fast

-- `ThrottleInterval` and `ExitTimeOut`
unfoldable pub pace_at : Data → Result Pace Fault
pace_at d = do
  throttle ← integer_key 0 86400 10 ThrottleInterval d
  exit ← integer_key 0 86400 20 ExitTimeOut d
  Ok (record { throttle_interval = throttle; exit_time_out = exit })

-- ---- what is around it

-- `EnvironmentVariables` to `StandardErrorPath`
unfoldable pub surroundings_at : Data → Result Surroundings Fault
surroundings_at d = do
  environment ← environment_key d
  directory ← optional_path WorkingDirectory d
  input ← optional_path StandardInPath d
  output ← optional_path StandardOutPath d
  error ← optional_path StandardErrorPath d
  Ok (record {
    environment = environment;
    working_directory = directory;
    standard_in_path = input;
    standard_out_path = output;
    standard_error_path = error;
  })

-- ---- what is not supported

-- what would change who or where the job is
unfoldable pub refusals_at : Data → Result ⊤ Fault
refusals_at d = do
  user ← refused_key UserName d
  group ← refused_key GroupName d
  refused_key RootDirectory d

-- ---- the whole definition

-- all keys
unfoldable pub def_at : Data → Result Described Fault
def_at d = do
  dictionary ← or_fault (as_object d) (bad NotObject NoKey)
  launch ← launch_at d
  demand ← demand_at d
  pace ← pace_at d
  surroundings ← surroundings_at d
  sockets ← sockets_and_inetd d
  nothing ← refusals_at d
  Ok (described launch demand pace surroundings sockets (not_acted_on (has_some sockets) d))

-- the value that the bytes are, or the fault of a definition
abbrev pub json_at : List ℕ → Result Data Fault
json_at bytes = or_fault (json_in bytes) (bad NotJson NoKey)

-- what a value that was read defines, or the first fault; no value means that the text is not JSON
abbrev pub def_or_fault : Option Data → Result Described Fault
def_or_fault found = do
  d ← or_fault found (bad NotJson NoKey)
  def_at d

-- what the bytes define, or the first fault
unfoldable pub def_of : List ℕ → Result Described Fault
def_of bytes = do
  d ← json_at bytes
  def_at d
