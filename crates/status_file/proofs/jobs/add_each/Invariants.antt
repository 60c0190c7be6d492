-- What stays true in the loop of `add_each`.
use Rattle.status_file.specs.Jobs.{AddsJobs}
use Rattle.status_file.proofs.jobs.add_each.Given as goal

abbrev pub invariant-loop-job : goal.invariant-loop-job
invariant-loop-job l = AddsJobs l.table l.fn.text l.text
