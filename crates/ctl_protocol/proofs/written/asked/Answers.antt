-- What the check of `written::asked` does not find by itself.
use Rattle.std.proofs.Common.{codes}
use Rattle.ctl_protocol.proofs.WrittenLinesLemmas.{start_told, stop_told, told_some_after}
use Rattle.ctl_protocol.proofs.written.asked.Goals as goal

pub returns-in-Some : goal.returns-in-Some
returns-in-Some c =
    told_some_after (codes "{\"ev\":\"st") c.args.bytes.now (codes "art\",\"job\":\"") c.in-Some.rest.now c.of_job.result _ c.in-Some.ensures c.of_job.ensures
    (start_told c.in-Some.rest.now c.in_ok-last_label.field-0.now c.in_ok-last_label.ensures)

pub returns : goal.returns
returns c =
    told_some_after (codes "{\"ev\":\"st") c.args.bytes.now (codes "op\",\"job\":\"") c.in_ok-after.field-0.now c.of_job-2.result _ c.in_ok-after.ensures c.of_job-2.ensures
    (stop_told c.in_ok-after.field-0.now c.in_ok-job.job.now c.in_ok-job.ensures)
