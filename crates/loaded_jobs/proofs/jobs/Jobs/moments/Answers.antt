-- The moments are those of the one job with the label.
use Rattle.std.proofs.Common.{Some, None, sym, subst, ◌∙◌}
use Rattle.loaded_jobs.specs.Waking.{HasMoments}
use Rattle.loaded_jobs.proofs.jobs.Jobs.moments.Goals as goal

pub returns-in-None : goal.returns-in-None
returns-in-None c = λ s keeps. subst (λ past. HasMoments past None) (sym (c.in-None.ensures s keeps)) tt

pub returns-in-Some : goal.returns-in-Some
returns-in-Some c = λ s keeps.
    let there = c.in-Some.ensures s keeps in
    subst (λ past. HasMoments past (Some c.moments.result)) (sym there.is) (c.moments.ensures there.past there.keeps (keeps.reading ∙ there.present))
