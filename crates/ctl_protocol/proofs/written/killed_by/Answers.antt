-- What the check of `written::killed_by` does not find by itself.
use Rattle.std.proofs.Common.{◌++◌, codes, arith}
use Rattle.ctl_protocol.proofs.WrittenLinesLemmas.{signal_told, told_some}
use Rattle.ctl_protocol.proofs.written.killed_by.Goals as goal

pub returns : goal.returns
returns c =
    told_some (codes "{\"ev\":\"ended\",\"job\":\"" ++ c.args.bytes.now) c.of_job.result _ c.of_job.ensures
    (signal_told c.args.bytes.now c.in_ok-job.rest.now c.in_ok-run.rest.now c.in_ok-job.job.now c.in_ok-run.run' c.in_ok-signal.signal c.in_ok-job.ensures c.in_ok-run.ensures c.in_ok-signal.ensures
    (omega (arith, c.if-signal-gt255.false)))
