-- The reasons by the facts are those of each past that the core stands for.
use Rattle.std.proofs.Common.{sym, ap, ◌∙◌}
use Rattle.history_model.specs.ReasonsByFacts.{reasons_by}
use Rattle.history_model.proofs.ReasonsLemmas.{reasons-by}
use Rattle.job_core.specs.State.{CoreState}
use Rattle.job_core.specs.JobFields.{facts}
use Rattle.job_core.specs.declared.Held.{Held}
use Rattle.job_core.proofs.JobCore.reasons.Goals as goal

pub returns : goal.returns
returns c = λ past keeps present.
    c.reasons.ensures
    ∙ ap (λ (h : Held). reasons_by (facts h.job) c.args.now.up) c.deref.ensures
    ∙ ap (λ (s : CoreState). reasons_by s.facts c.args.now.up) c.self.view_is
    ∙ (λ i. reasons_by (keeps.same i) (present i).up)
    ∙ sym (reasons-by past keeps.lawful)
