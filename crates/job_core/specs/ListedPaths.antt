-- The paths that a definition watches, and its queue directories, as they lie in a job with what
-- was last seen at each.
use Rattle.std.specs.Prelude.{ℕ, cond, List, Option, Some}
use Rattle.history_model.specs.declared.Obs.{Obs}
use Rattle.history_model.specs.Demands.{is_same_path}
use Rattle.job_core.specs.declared.paths.Watched.{Watched}
use Rattle.job_core.specs.declared.paths.QueueDirectory.{QueueDirectory}

-- a watched path
abbrev pub watched_path : Watched → List ℕ
watched_path w = w.path

-- what was seen there last
abbrev pub watched_observation : Watched → Option Obs
watched_observation w = w.watch

-- the watched path after this was seen at this path
abbrev pub watched_after_observation : List ℕ → Obs → Watched → Watched
watched_after_observation path obs w = record w { watch = cond (is_same_path w.path path) (Some obs) w.watch }

-- a queue directory's path
abbrev pub queue_path : QueueDirectory → List ℕ
queue_path q = q.path

-- what was seen there last
abbrev pub queue_observation : QueueDirectory → Option Obs
queue_observation q = q.queue

-- the queue directory after this was seen at this path
abbrev pub queue_after : List ℕ → Obs → QueueDirectory → QueueDirectory
queue_after path obs q = record q { queue = cond (is_same_path q.path path) (Some obs) q.queue }
