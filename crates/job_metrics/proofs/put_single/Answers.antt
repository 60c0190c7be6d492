use Rattle.std.proofs.Common.{sym, subst}
use Rattle.run_times.specs.Written.{Adds}
use Rattle.run_times.proofs.GrowingLemmas.{adds_none, adds_on}
use Rattle.job_metrics.specs.Samples.{bare_sample, head_text, launcher_text}
use Rattle.job_metrics.proofs.put_single.Goals as goal

pub returns-in-Some : goal.returns-in-Some
returns-in-Some c =
    let family = c.args.family in
    let a = c.args.writer.now in
    let b = c.put_head.new.writer in
    let d = c.put_value.new.writer in
    subst (λ value. Adds (launcher_text family value) a d) (sym c.in-Some.is)
    (adds_on (head_text family) (bare_sample family c.in-Some.value) a b d c.put_head.ensures c.put_value.ensures)
