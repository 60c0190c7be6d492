-- What holds at each turn of the loops of `paths::see`, and why each ends.
use Rattle.std.proofs.Common.{◌≡◌}
use Rattle.history_model.proofs.WrittenLemmas.{written}
use Rattle.job_core.specs.ListedPaths.{queue_after}
use Rattle.job_core.proofs.paths.see.Given as goal

abbrev pub invariant-loop-directory : goal.invariant-loop-directory
invariant-loop-directory l = l.directory-items ≡ written (queue_after l.path l.obs) l.directory-index l.fn.listed.items
