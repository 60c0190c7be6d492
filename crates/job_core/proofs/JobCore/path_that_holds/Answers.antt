-- The path by the facts is that of each past that the core stands for.
use Rattle.std.proofs.Common.{sym, ap, ◌∙◌}
use Rattle.history_model.specs.ReasonsByFacts.{path_by}
use Rattle.history_model.proofs.ReasonsLemmas.{path-by}
use Rattle.job_core.specs.State.{CoreState}
use Rattle.job_core.specs.JobFields.{facts}
use Rattle.job_core.specs.declared.Held.{Held}
use Rattle.job_core.proofs.JobCore.path_that_holds.Goals as goal

pub returns : goal.returns
returns c = λ past keeps.
    c.path_that_holds.ensures
    ∙ ap (λ (h : Held). path_by (facts h.job)) c.deref.ensures
    ∙ ap (λ (s : CoreState). path_by s.facts) c.self.view_is
    ∙ ap path_by keeps.same
    ∙ sym (path-by past)
