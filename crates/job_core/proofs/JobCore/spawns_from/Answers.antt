-- The moment by the facts is that of each past that the core stands for.
use Rattle.std.proofs.Common.{sym, ap, ◌∙◌}
use Rattle.history_model.specs.ReasonsByFacts.{spawns_from_by}
use Rattle.history_model.proofs.ReasonsLemmas.{spawns-by}
use Rattle.job_core.specs.State.{CoreState}
use Rattle.job_core.specs.JobFields.{facts}
use Rattle.job_core.specs.declared.Held.{Held}
use Rattle.job_core.proofs.JobCore.spawns_from.Goals as goal

pub returns : goal.returns
returns c = λ past keeps present.
    c.spawns_from.ensures
    ∙ ap (λ (h : Held). spawns_from_by (facts h.job) c.args.now.up) c.deref.ensures
    ∙ ap (λ (s : CoreState). spawns_from_by s.facts c.args.now.up) c.self.view_is
    ∙ (λ i. spawns_from_by (keeps.same i) (present i).up)
    ∙ sym (spawns-by past keeps.lawful)
