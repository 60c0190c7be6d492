use Rattle.run_times.specs.Written.{Adds}
use Rattle.job_metrics.specs.Samples.{label_text}
use Rattle.job_metrics.proofs.put_label.Given as goal

abbrev pub invariant-loop-c : goal.invariant-loop-c
invariant-loop-c l = Adds (label_text l.yielded) l.fn.writer l.writer
