-- The rows are as they were.
use Rattle.std.proofs.Common.{subst}
use Rattle.loaded_jobs.specs.Counts.{counts, IsCounted}
use Rattle.loaded_jobs.specs.JobSlots.{rows, gone}
use Rattle.loaded_jobs.proofs.CountsLemmas.{idle}
use Rattle.loaded_jobs.proofs.jobs.Jobs.ask_none.Goals as goal

pub returns-clause-counted : goal.returns-clause-counted
returns-clause-counted c =
    let es = c.begin.new.self.job_slots.items in
    subst (λ rs. IsCounted (counts rs) (rows es) (gone es) 0) c.begin.ensures.rows (idle es c.begin.ensures.begun.stay c.begin.ensures.begun.whole.sound.once)
