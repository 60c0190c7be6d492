use Rattle.std.proofs.Common.{◌++◌, Some, sym, subst}
use Rattle.run_times.specs.Written.{Adds}
use Rattle.run_times.proofs.GrowingLemmas.{adds_on}
use Rattle.job_metrics.specs.declared.Family.TheVariants.{Up, JournalOpen, Told, LeftOut, CountedSince, FailedCalls}
use Rattle.job_metrics.specs.Samples.{flag_value, launcher_text}
use Rattle.job_metrics.proofs.put_launcher.Goals as goal

pub returns : goal.returns
returns c =
    let of = c.args.launcher.now in
    let a = c.args.writer.now in
    let b = c.put_single.new.writer in
    let d = c.put_single-2.new.writer in
    let e = c.put_single-3.new.writer in
    let g = c.put_single-4.new.writer in
    let h = c.put_single-5.new.writer in
    let i = c.put_single-6.new.writer in
    let up = launcher_text Up (flag_value of.is_up) in
    let journal = launcher_text JournalOpen (flag_value of.journal_is_open) in
    let told = launcher_text Told (Some of.told) in
    let first : Adds up a b = subst (λ v. Adds (launcher_text Up v) a b) c.flag_value.ensures c.put_single.ensures in
    let second : Adds journal b d = subst (λ v. Adds (launcher_text JournalOpen v) b d) c.flag_value-2.ensures c.put_single-2.ensures in
    let left = launcher_text LeftOut of.left_out in
    let since = launcher_text CountedSince of.counted_since in
    let third : Adds ((up ++ journal) ++ told) a e =
    adds_on (up ++ journal) told a d e (adds_on up journal a b d first second) c.put_single-3.ensures in
    let fourth : Adds (((up ++ journal) ++ told) ++ left) a g =
    adds_on ((up ++ journal) ++ told) left a e g third c.put_single-4.ensures in
    let fifth : Adds ((((up ++ journal) ++ told) ++ left) ++ since) a h =
    adds_on (((up ++ journal) ++ told) ++ left) since a g h fourth c.put_single-5.ensures in
    adds_on ((((up ++ journal) ++ told) ++ left) ++ since) (launcher_text FailedCalls of.failed_calls) a h i fifth
    c.put_single-6.ensures
