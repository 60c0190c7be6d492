-- The moments by the facts are those of each past that the core stands for.
use Rattle.std.proofs.Common.{ap, ◌∙◌}
use Rattle.history_model.specs.DueByFacts.{may_kill_by, may_term_by}
use Rattle.history_model.specs.NextMomentByFacts.{coming_period}
use Rattle.job_core.specs.State.{CoreState}
use Rattle.job_core.specs.JobFields.{facts}
use Rattle.job_core.specs.declared.Held.{Held}
use Rattle.job_core.proofs.MomentsLemmas.{moments-by}
use Rattle.job_core.proofs.JobCore.moments.Goals as goal

pub returns : goal.returns
returns c =
    let same = ap (λ (h : Held). facts h.job) c.deref.ensures ∙ ap (λ (s : CoreState). s.facts) c.self.view_is in
    moments-by c.args.self.now.facts c.args.now c.moments.result
    (λ up. c.moments.ensures.term up ∙ (λ i. may_term_by (same i) up))
    (λ up. c.moments.ensures.kill up ∙ (λ i. may_kill_by (same i) up))
    (c.moments.ensures.interval ∙ (λ i. coming_period (same i).definition.start_interval (same i).load_up c.args.now.up))
