-- The path is that of the one job with the label.
use Rattle.std.proofs.Common.{ap, sym, ◌∙◌}
use Rattle.loaded_jobs.specs.Waking.{holding}
use Rattle.loaded_jobs.proofs.jobs.Jobs.path_that_holds.Goals as goal

pub returns-in-None : goal.returns-in-None
returns-in-None c = λ s keeps. ap holding (sym (c.in-None.ensures s keeps))

pub returns-in-Some : goal.returns-in-Some
returns-in-Some c = λ s keeps.
    let there = c.in-Some.ensures s keeps in
    c.path_that_holds.ensures there.past there.keeps ∙ ap holding (sym there.is)
