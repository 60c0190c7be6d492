-- Whether a launcher is running, by what the system shows of its lock and of its process (proc(5), flock(2), pid_namespaces(7)).
use Rattle.std.specs.Prelude.{ℕ, Bool, true, false, Option, Some, None, cond, nat_lt, not}
use Rattle.launcher_life.specs.declared.life.Life.{Life}
use Rattle.launcher_life.specs.declared.life.Life.TheVariants as lives
use Rattle.launcher_life.specs.declared.life.LockSeen.{LockSeen}
use Rattle.launcher_life.specs.declared.life.LockSeen.TheVariants as locks
use Rattle.launcher_life.specs.declared.life.ProcessSeen.{ProcessSeen}
use Rattle.launcher_life.specs.declared.life.ProcessSeen.TheVariants as processes
use Rattle.launcher_life.specs.declared.life.TheConstants.{LATEST}

-- the launcher holds its lock
abbrev pub is_held : LockSeen → Bool
is_held locks.Held = true
is_held locks.Others = false
is_held locks.Free = false
is_held locks.Absent = false
is_held locks.Unknown = false

-- the launcher is there: its process is seen, or it is hidden and holds its lock
abbrev pub is_there : ProcessSeen → LockSeen → Bool
is_there processes.Running lock = true
is_there processes.Stopped lock = true
is_there processes.None lock = false
is_there processes.Hidden lock = is_held lock

-- a launcher that is there runs, or has renewed nothing for longer than one that runs may
abbrev pub life_there : Option ℕ → Life
life_there None = lives.Runs
life_there (Some seconds) = cond (nat_lt LATEST seconds) (lives.Silent seconds) lives.Runs

-- one of which nothing is seen is reported as killed only where all would be seen
abbrev pub life_gone : Bool → Bool → Life
life_gone sees_all true = lives.Exited
life_gone true false = lives.Killed
life_gone false false = lives.NotSeen

-- a hidden process, of which no lock is seen
abbrev pub life_hidden : LockSeen → Bool → Bool → Option ℕ → Life
life_hidden locks.Held sees_all ended silent = life_there silent
life_hidden locks.Free sees_all ended silent = life_gone sees_all ended
life_hidden locks.Absent sees_all ended silent = cond ended lives.Exited lives.Unknown
life_hidden locks.Others sees_all ended silent = lives.Unknown
life_hidden locks.Unknown sees_all ended silent = lives.Unknown

abbrev pub life_by : ProcessSeen → LockSeen → Bool → Bool → Option ℕ → Life
life_by processes.Running lock sees_all ended silent = life_there silent
life_by processes.Stopped lock sees_all ended silent = lives.Stopped
life_by processes.None lock sees_all ended silent = cond (is_held lock) lives.Unknown (life_gone sees_all ended)
life_by processes.Hidden lock sees_all ended silent = life_hidden lock sees_all ended silent

-- something may be foretold of its jobs
abbrev pub foretells : Life → Bool
foretells lives.Runs = true
foretells lives.Stopped = false
foretells (lives.Silent seconds) = false
foretells lives.NotSeen = false
foretells lives.Exited = false
foretells lives.Killed = false
foretells lives.Unknown = false

-- it runs
abbrev pub is_running : Life → Bool
is_running life = foretells life

-- it does not run any more, as far as it can be seen
abbrev pub is_over : Life → Bool
is_over lives.Runs = false
is_over lives.Stopped = false
is_over (lives.Silent seconds) = false
is_over lives.NotSeen = false
is_over lives.Exited = true
is_over lives.Killed = true
is_over lives.Unknown = false

abbrev pub may_live : Life → Bool
may_live life = not (is_over life)

-- it is reported as killed
abbrev pub is_killed : Life → Bool
is_killed lives.Runs = false
is_killed lives.Stopped = false
is_killed (lives.Silent seconds) = false
is_killed lives.NotSeen = false
is_killed lives.Exited = false
is_killed lives.Killed = true
is_killed lives.Unknown = false
