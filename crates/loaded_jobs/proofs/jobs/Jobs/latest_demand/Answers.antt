-- What made the demand is that of the one job with the label.
use Rattle.std.proofs.Common.{ap, sym, ◌∙◌}
use Rattle.loaded_jobs.specs.Waking.{demanding}
use Rattle.loaded_jobs.proofs.jobs.Jobs.latest_demand.Goals as goal

pub returns-in-None : goal.returns-in-None
returns-in-None c = λ s keeps. ap demanding (sym (c.in-None.ensures s keeps))

pub returns-in-Some : goal.returns-in-Some
returns-in-Some c = λ s keeps.
    let there = c.in-Some.ensures s keeps in
    c.latest_demand.ensures there.past there.keeps ∙ ap demanding (sym there.is)
