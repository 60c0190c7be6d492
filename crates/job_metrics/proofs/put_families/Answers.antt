use Rattle.std.proofs.Common.{subst}
use Rattle.std.proofs.lemmas.List.{take_all}
use Rattle.run_times.specs.Written.{Adds}
use Rattle.run_times.proofs.GrowingLemmas.{adds_none}
use Rattle.job_metrics.specs.Samples.{family_text, families_text}
use Rattle.job_metrics.proofs.SamplesLemmas.{adds_next}
use Rattle.job_metrics.proofs.put_families.Goals as goal

pub loop-family-init : goal.loop-family-init
loop-family-init c = adds_none c.args.writer.now

pub loop-family-preserved : goal.loop-family-preserved
loop-family-preserved c =
    adds_next (family_text c.args.jobs.now) c.args.families.now c.loop-family.family-index _ c.args.writer.now c.loop-family.writer c.put_family.new.writer c.loop-family-test.true c.loop-family.invariant c.put_family.ensures

pub returns : goal.returns
returns c =
    subst (λ families. Adds (families_text c.args.jobs.now families) c.args.writer.now c.loop-family.writer)
    (take_all c.loop-family.family-index c.args.families.now c.loop-family-test.false) c.loop-family.invariant
