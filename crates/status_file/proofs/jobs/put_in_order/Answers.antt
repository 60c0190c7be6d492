use Rattle.status_file.proofs.JobsLemmas.{no_line, no_memory}
use Rattle.status_file.proofs.jobs.put_in_order.Goals as goal

pub returns-in-Ok : goal.returns-in-Ok
returns-in-Ok c = no_line c.args.table.now c.args.text.now

pub returns-in-Err : goal.returns-in-Err
returns-in-Err c = no_memory c.args.table.now c.args.text.now _ c.refuse.ensures
