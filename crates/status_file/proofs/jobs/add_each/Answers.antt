use Rattle.status_file.proofs.JobsLemmas.{lines_then, no_line}
use Rattle.status_file.proofs.jobs.add_each.Goals as goal

pub loop-job-init : goal.loop-job-init
loop-job-init c = no_line c.args.table.now c.args.text.now

pub loop-job-preserved : goal.loop-job-preserved
loop-job-preserved c = lines_then c.args.table.now c.args.text.now c.loop-job.text c.add_numbered.new.text c.loop-job.invariant c.add_numbered.ensures

pub returns : goal.returns
returns c = c.loop-job.invariant
