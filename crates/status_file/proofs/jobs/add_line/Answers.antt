use Rattle.status_file.proofs.JobsLemmas.{one_line}
use Rattle.status_file.proofs.jobs.add_line.Goals as goal

pub returns : goal.returns
returns c =
    one_line c.args.table.now (record { job = c.args.job.now; calendar = c.args.calendar.now }) c.args.text.now c.add_job.new.text c.add_job.ensures c.requires
