-- What the check of `written::exited` does not find by itself.
use Rattle.std.proofs.Common.{◌++◌, codes, arith}
use Rattle.ctl_protocol.proofs.WrittenLinesLemmas.{exit_told, told_some}
use Rattle.ctl_protocol.proofs.written.exited.Goals as goal

pub returns : goal.returns
returns c =
    told_some (codes "{\"code\":" ++ c.args.bytes.now) c.of_job.result _ c.of_job.ensures
    (exit_told c.args.bytes.now c.in_ok-code.rest.now c.in_ok-after.field-0.now c.in_ok-job.job.now c.in_ok-code.code c.in_ok-job.run' c.in_ok-code.ensures c.in_ok-after.ensures c.in_ok-job.ensures
    (omega (arith, c.if-code-gt255.false)))
