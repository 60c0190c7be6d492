use native.Mathlib.Omega.{arith}
use Rattle.std.proofs.Common.{◌≡◌, ◌∷◌, [], ◌++◌, ◌∙◌, ap, false, string_bytes}
use Rattle.run_times.specs.Written.{Adds}
use Rattle.run_times.proofs.GrowingLemmas.{adds_on}
use Rattle.job_metrics.specs.declared.Family.TheVariants.{Running, Starts, Failures, Refusals, LastEnd, NextStart, LastSuccess, LastExit, Resident, Processor, Disabled}
use Rattle.job_metrics.specs.Samples.{families_text, launcher_samples}
use Rattle.job_metrics.proofs.metrics.Goals as goal

pub returns : goal.returns
returns c =
    let a = c.new-writer.result in
    let b = c.put_launcher.new.writer in
    let d = c.put_families.new.writer in
    let one = launcher_samples c.args.launcher.now in
    let other = families_text c.args.jobs.now (Running ∷ Starts ∷ Failures ∷ Refusals ∷ LastEnd ∷ NextStart ∷ LastSuccess ∷ LastExit ∷ Resident ∷ Processor ∷ Disabled ∷ []) in
    let all : Adds (one ++ other) a d = adds_on one other a b d c.put_launcher.ensures c.put_families.ensures in
    let written : d.is_refused ≡ false → string_bytes d.text ≡ one ++ other = λ well. all.added well ∙ ap (λ text. text ++ (one ++ other)) c.new-writer.ensures.empty in
    grind (arith, written, c.into_text.ensures.value, c.into_text.ensures.succeeds)
