-- The goals of `Queues::path_that_holds` that the prover leaves open.
use Rattle.std.proofs.Common.{◌∙◌, Some, ap}
use Rattle.std.specs.List.{find}
use Rattle.std.specs.Option.{option_map}
use Rattle.history_model.specs.Levels.{queue_holds}
use Rattle.history_model.specs.DueByFacts.{first_seen}
use Rattle.job_core.specs.Observations.{Observations}
use Rattle.job_core.specs.ListedPaths.{queue_path}
use Rattle.job_core.specs.declared.paths.QueueDirectory.{QueueDirectory}
use Rattle.job_core.proofs.PathsLemmas.{first-queue}
use Rattle.job_core.proofs.paths.Queues.path_that_holds.Goals as goal

pub returns-in-Some : goal.returns-in-Some
returns-in-Some c =
    ap Some c.as_str.ensures
    ∙ ap (option_map queue_path) c.in-Some.ensures
    ∙ ap (λ qs. option_map queue_path (find (λ (q : QueueDirectory). queue_holds q.queue) qs)) c.as_slice.ensures.value
    ∙ first-queue c.self.inside.listed.items
    ∙ ap (λ (s : Observations). first_seen (λ path. queue_holds) s.paths s.seen) c.self.view_is

pub returns-in-None : goal.returns-in-None
returns-in-None c =
    ap (option_map queue_path) c.in-None.ensures
    ∙ ap (λ qs. option_map queue_path (find (λ (q : QueueDirectory). queue_holds q.queue) qs)) c.as_slice.ensures.value
    ∙ first-queue c.self.inside.listed.items
    ∙ ap (λ (s : Observations). first_seen (λ path. queue_holds) s.paths s.seen) c.self.view_is
