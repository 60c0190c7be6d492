use Rattle.std.proofs.Common.{take}
use Rattle.run_times.specs.Written.{Adds}
use Rattle.job_metrics.specs.Samples.{families_text}
use Rattle.job_metrics.proofs.put_families.Given as goal

abbrev pub invariant-loop-family : goal.invariant-loop-family
invariant-loop-family l = Adds (families_text l.jobs (take l.family-index l.families)) l.fn.writer l.writer
