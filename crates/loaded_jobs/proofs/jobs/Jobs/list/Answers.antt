-- The list is the machine's, which rests.
use Rattle.std.proofs.Common.{refl, sym, subst}
use Rattle.history_model.specs.Machine.{ListJobs}
use Rattle.loaded_jobs.specs.StandsFor.{KeepsJobs}
use Rattle.loaded_jobs.specs.JobSlots.{rows}
use Rattle.loaded_jobs.specs.Sound.{seen_table}
use Rattle.loaded_jobs.proofs.RestLemmas.{rests-text}
use Rattle.loaded_jobs.proofs.jobs.Jobs.list.Goals as goal

pub returns-in-Ok-clause-text : goal.returns-in-Ok-clause-text
returns-in-Ok-clause-text c = λ s keeps.
    let jobs = subst (λ es. KeepsJobs s.reading (rows es) s.jobs) (sym c.deref.ensures.value) keeps.jobs in
    rests-text (seen_table c.args.self.now) s ListJobs _ c.requires.in_range keeps refl refl (sym (c.in-Ok.ensures s.reading s.jobs jobs))
