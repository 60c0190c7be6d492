use Rattle.std.proofs.Common.{subst}
use Rattle.std.proofs.lemmas.List.{take_all}
use Rattle.run_times.specs.Written.{Adds}
use Rattle.run_times.proofs.GrowingLemmas.{adds_none}
use Rattle.job_metrics.specs.Samples.{sample_text, samples_text}
use Rattle.job_metrics.proofs.SamplesLemmas.{adds_next}
use Rattle.job_metrics.proofs.put_samples.Goals as goal

pub loop-job-init : goal.loop-job-init
loop-job-init c = adds_none c.args.writer.now

pub loop-job-preserved : goal.loop-job-preserved
loop-job-preserved c =
    adds_next (sample_text c.args.family) c.args.jobs.now c.loop-job.job-index _ c.args.writer.now c.loop-job.writer c.put_sample.new.writer c.loop-job-test.true c.loop-job.invariant c.put_sample.ensures

pub returns : goal.returns
returns c =
    subst (λ jobs. Adds (samples_text c.args.family jobs) c.args.writer.now c.loop-job.writer)
    (take_all c.loop-job.job-index c.args.jobs.now c.loop-job-test.false) c.loop-job.invariant
