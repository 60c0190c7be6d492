-- What holds at each turn of the loops of `paths::watches_of`, and why each ends.
use Rattle.std.proofs.Common.{◌≡◌, map, take, None}
use Rattle.job_core.specs.ListedPaths.{watched_path, watched_observation}
use Rattle.job_core.proofs.paths.watches_of.Given as goal

abbrev pub invariant-loop-path : goal.invariant-loop-path
invariant-loop-path l = record {
  paths : map watched_path l.listed.items ≡ take l.path-index l.paths;
  unseen : map watched_observation l.listed.items ≡ map (λ _. None) (take l.path-index l.paths);
}
