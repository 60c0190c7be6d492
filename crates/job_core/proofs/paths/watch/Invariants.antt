-- What holds at each turn of the loops of `paths::watch`, and why each ends.
use Rattle.std.proofs.Common.{◌≡◌, take}
use Rattle.std.specs.List.{list_any}
use Rattle.history_model.proofs.WrittenLemmas.{written}
use Rattle.job_core.specs.ListedPaths.{watched_after_observation}
use Rattle.job_core.proofs.PathsLemmas.{fires_at}
use Rattle.job_core.proofs.paths.watch.Given as goal

abbrev pub invariant-loop-watched : goal.invariant-loop-watched
invariant-loop-watched l = record {
  seen : l.watched-items ≡ written (watched_after_observation l.path l.obs) l.watched-index l.fn.listed.items;
  fires : l.fires ≡ list_any (fires_at l.path l.obs) (take l.watched-index l.fn.listed.items);
}
