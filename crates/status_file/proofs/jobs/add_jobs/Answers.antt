use Rattle.status_file.proofs.JobsLemmas.{lines_then}
use Rattle.status_file.proofs.jobs.add_jobs.Goals as goal

pub returns : goal.returns
returns c = lines_then c.args.table.now c.args.text.now c.put_in_order.new.text c.add_each.new.text c.put_in_order.ensures c.add_each.ensures
