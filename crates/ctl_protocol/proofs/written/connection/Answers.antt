-- What the check of `written::connection` does not find by itself.
use Rattle.std.proofs.Common.{◌++◌, codes}
use Rattle.ctl_protocol.proofs.WrittenLinesLemmas.{came_told, left_told, told_some}
use Rattle.ctl_protocol.proofs.written.connection.Goals as goal

pub returns-in-Some : goal.returns-in-Some
returns-in-Some c =
    told_some (codes "{\"conn\":" ++ c.args.bytes.now) c.of_job.result _ c.of_job.ensures
    (came_told c.args.bytes.now c.in_ok-conn.rest.now c.in-Some.rest.now c.in_ok-last_label.field-0.now c.in_ok-conn.conn c.in_ok-conn.ensures c.in-Some.ensures c.in_ok-last_label.ensures)

pub returns : goal.returns
returns c =
    told_some (codes "{\"conn\":" ++ c.args.bytes.now) c.of_job-2.result _ c.of_job-2.ensures
    (left_told c.args.bytes.now c.in_ok-conn.rest.now c.in_ok-after.field-0.now c.in_ok-job.job.now c.in_ok-conn.conn c.in_ok-conn.ensures c.in_ok-after.ensures c.in_ok-job.ensures)
