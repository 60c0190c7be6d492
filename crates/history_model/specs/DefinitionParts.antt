-- The parts of a definition as the groups of its keys.
use Rattle.history_model.specs.declared.definition.parts.Command.{Command}
use Rattle.history_model.specs.declared.definition.parts.Launch.{Launch}
use Rattle.history_model.specs.declared.definition.parts.Keep.{Keep}
use Rattle.history_model.specs.declared.definition.parts.Demand.{Demand}
use Rattle.history_model.specs.declared.definition.parts.Pace.{Pace}
use Rattle.history_model.specs.declared.definition.parts.Surroundings.{Surroundings}
use Rattle.history_model.specs.KeyGroups as groups

-- each part without where it lies in memory
abbrev pub command_of : Command → groups.Command
command_of x = record { program = x.program; arguments = x.arguments.items }

-- what is run, and how it is loaded
abbrev pub launch_of : Launch → groups.Launch
launch_of x = record {
  label = x.label;
  command = command_of x.command;
  run_at_load = x.run_at_load;
  launch_only_once = x.launch_only_once;
  disabled = x.disabled;
}

-- what `KeepAlive` says
abbrev pub keep_of : Keep → groups.Keep
keep_of x = record {
  always = x.always;
  successful_exit = x.successful_exit;
  crashed = x.crashed;
  path_state = x.path_state.items;
}

-- what makes the job run
abbrev pub demand_of : Demand → groups.Demand
demand_of x = record {
  keep = keep_of x.keep;
  watch_paths = x.watch_paths.items;
  queue_directories = x.queue_directories.items;
  start_interval = x.start_interval;
  calendar = x.calendar.items;
}

-- how often it is started, and how long it may take to end
abbrev pub pace_of : Pace → groups.Pace
pace_of x = record { throttle_interval = x.throttle_interval; exit_time_out = x.exit_time_out }

-- what is around its child
abbrev pub surroundings_of : Surroundings → groups.Surroundings
surroundings_of x = record {
  environment = x.environment.items;
  working_directory = x.working_directory;
  standard_in_path = x.standard_in_path;
  standard_out_path = x.standard_out_path;
  standard_error_path = x.standard_error_path;
}
