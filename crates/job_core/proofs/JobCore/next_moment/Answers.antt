-- The facts give the least moment to come of each past that they stand for.
use Rattle.std.proofs.Common.{sym, ap, ◌∙◌}
use Rattle.history_model.specs.NextMomentByFacts.{next_by}
use Rattle.history_model.proofs.ComingLemmas.{next-by}
use Rattle.job_core.specs.State.{CoreState}
use Rattle.job_core.specs.JobFields.{facts}
use Rattle.job_core.specs.declared.Held.{Held}
use Rattle.job_core.proofs.JobCore.next_moment.Goals as goal

pub returns-clause-next : goal.returns-clause-next
returns-clause-next c = λ past keeps present.
    c.next_moment.ensures
    ∙ ap (λ (h : Held). next_by (facts h.job) c.args.now.up) c.deref.ensures
    ∙ ap (λ (s : CoreState). next_by s.facts c.args.now.up) c.self.view_is
    ∙ (λ i. next_by (keeps.same i) (present i).up)
    ∙ sym (next-by past keeps.lawful)

pub returns-clause-known : goal.returns-clause-known
returns-clause-known c =
    c.next_moment.ensures
    ∙ ap (λ (h : Held). next_by (facts h.job) c.args.now.up) c.deref.ensures
    ∙ ap (λ (s : CoreState). next_by s.facts c.args.now.up) c.self.view_is
