-- What the check of `written::spawned` does not find by itself.
use Rattle.std.proofs.Common.{◌++◌, codes, arith}
use Rattle.ctl_protocol.proofs.WrittenLinesLemmas.{spawned_told, told_some}
use Rattle.ctl_protocol.proofs.written.spawned.Goals as goal

pub returns : goal.returns
returns c =
    told_some (codes "{\"ev\":\"spawned\",\"job\":\"" ++ c.args.bytes.now) c.of_job.result _ c.of_job.ensures
    (spawned_told c.args.bytes.now c.in_ok-job.rest.now c.in_ok-pid.rest.now c.in_ok-job.job.now c.in_ok-pid.pid c.in_ok-run.run' c.in_ok-job.ensures c.in_ok-pid.ensures c.in_ok-run.ensures
    (omega (arith, c.if-pid-eq0.false)) (omega (arith, c.if-pid-gt4294967295.false)))
