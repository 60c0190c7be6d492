use Rattle.run_times.proofs.GrowingLemmas.{adds_on}
use Rattle.job_metrics.specs.Samples.{head_text, samples_text}
use Rattle.job_metrics.proofs.put_family.Goals as goal

pub returns : goal.returns
returns c =
    adds_on (head_text c.args.family) (samples_text c.args.family c.args.jobs.now) c.args.writer.now c.put_head.new.writer c.put_samples.new.writer c.put_head.ensures c.put_samples.ensures
