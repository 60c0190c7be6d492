-- What the check of `written::answered` does not find by itself.
use Rattle.std.proofs.Common.{codes}
use Rattle.ctl_protocol.proofs.WrittenLinesLemmas.{killed_told, spawn_refused_told, termed_told, told_some_after, wait_refused_told}
use Rattle.ctl_protocol.proofs.written.answered.Goals as goal

pub returns-in-Some : goal.returns-in-Some
returns-in-Some c =
    told_some_after (codes "{\"ev\":\"") c.args.bytes.now (codes "termed\",\"job\":\"") c.in-Some.rest.now c.of_job.result _ c.in-Some.ensures c.of_job.ensures
    (termed_told c.in-Some.rest.now c.in_ok-job.job.now c.in_ok-job.ok c.in_ok-job.run' c.in_ok-job.ensures)

pub returns-in-Some-after : goal.returns-in-Some-after
returns-in-Some-after c =
    told_some_after (codes "{\"ev\":\"") c.args.bytes.now (codes "killed\",\"job\":\"") c.in-Some-after.rest.now c.of_job-in-Some-after.result _ c.in-Some-after.ensures c.of_job-in-Some-after.ensures
    (killed_told c.in-Some-after.rest.now c.in_ok-job-2.job.now c.in_ok-job-2.ok c.in_ok-job-2.run' c.in_ok-job-2.ensures)

pub returns-in-Some-after-2 : goal.returns-in-Some-after-2
returns-in-Some-after-2 c =
    told_some_after (codes "{\"ev\":\"") c.args.bytes.now (codes "spawn_refused\",\"job\":\"") c.in-Some-after-2.rest.now c.of_job-in-Some-after-2.result _ c.in-Some-after-2.ensures c.of_job-in-Some-after-2.ensures
    (spawn_refused_told c.in-Some-after-2.rest.now c.in_ok-job-3.job.now c.in_ok-job-3.run' c.in_ok-job-3.ensures)

pub returns : goal.returns
returns c =
    told_some_after (codes "{\"ev\":\"") c.args.bytes.now (codes "wait_refused\",\"job\":\"") c.in_ok-after.field-0.now c.of_job-2.result _ c.in_ok-after.ensures c.of_job-2.ensures
    (wait_refused_told c.in_ok-after.field-0.now c.in_ok-job-4.job.now c.in_ok-job-4.run' c.in_ok-job-4.ensures)
