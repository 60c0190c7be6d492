-- The moment is that of the one job with the label.
use Rattle.std.proofs.Common.{ap, sym, ◌∙◌}
use Rattle.loaded_jobs.specs.Waking.{spawning}
use Rattle.loaded_jobs.proofs.jobs.Jobs.spawns_from.Goals as goal

pub returns-in-None : goal.returns-in-None
returns-in-None c = λ s keeps. ap spawning (sym (c.in-None.ensures s keeps))

pub returns-in-Some : goal.returns-in-Some
returns-in-Some c = λ s keeps.
    let there = c.in-Some.ensures s keeps in
    c.spawns_from.ensures there.past there.keeps (keeps.reading ∙ there.present) ∙ ap spawning (sym there.is)
