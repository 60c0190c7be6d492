use Rattle.std.proofs.Common.{take}
use Rattle.run_times.specs.Written.{Adds}
use Rattle.job_metrics.specs.Samples.{samples_text}
use Rattle.job_metrics.proofs.put_samples.Given as goal

abbrev pub invariant-loop-job : goal.invariant-loop-job
invariant-loop-job l = Adds (samples_text l.family (take l.job-index l.jobs)) l.fn.writer l.writer
