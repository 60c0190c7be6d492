-- The index's least moment is that of the machine's jobs.
use Rattle.std.proofs.Common.{sym, subst}
use Rattle.loaded_jobs.specs.Index.{AreTimed}
use Rattle.loaded_jobs.specs.NextMoments.{IsNextUp}
use Rattle.timer_heap.specs.Timers.{IsLeast}
use Rattle.loaded_jobs.proofs.LeastMomentLemmas.{none-up, least-up}
use Rattle.loaded_jobs.proofs.jobs.Jobs.next_up.Goals as goal

pub returns-in_err-_job : goal.returns-in_err-_job
returns-in_err-_job c = λ s keeps.
    let t = c.args.self.now in
    subst (IsNextUp s.jobs) (sym c.from_residual.ensures)
    (none-up s.reading t.index.timers t.job_slots.items s.jobs (subst (λ r. AreTimed t.index.timers r.up t.job_slots.items) keeps.reading c.requires.indexed.timed)
    (subst (IsLeast t.index.timers) c.in_err-_job.was c.least.ensures) keeps.jobs)

pub returns : goal.returns
returns c = λ s keeps.
    let t = c.args.self.now in
    least-up s.reading t.index.timers t.job_slots.items s.jobs c.in_ok-_job._job c.in_ok-_job.moment (subst (λ r. AreTimed t.index.timers r.up t.job_slots.items) keeps.reading c.requires.indexed.timed)
    c.requires.indexed.alone (subst (IsLeast t.index.timers) c.in_ok-_job.was c.least.ensures) keeps.jobs
