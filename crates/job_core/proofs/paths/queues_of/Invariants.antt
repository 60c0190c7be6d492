-- What holds at each turn of the loops of `paths::queues_of`, and why each ends.
use Rattle.std.proofs.Common.{◌≡◌, map, take, None}
use Rattle.job_core.specs.ListedPaths.{queue_path, queue_observation}
use Rattle.job_core.proofs.paths.queues_of.Given as goal

abbrev pub invariant-loop-path : goal.invariant-loop-path
invariant-loop-path l = record {
  paths : map queue_path l.listed.items ≡ take l.path-index l.paths;
  unseen : map queue_observation l.listed.items ≡ map (λ _. None) (take l.path-index l.paths);
}
