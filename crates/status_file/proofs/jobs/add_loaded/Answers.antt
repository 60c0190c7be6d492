use Rattle.status_file.proofs.JobsLemmas.{no_line}
use Rattle.status_file.proofs.jobs.add_loaded.Goals as goal

pub returns-in-None : goal.returns-in-None
returns-in-None c = no_line c.args.table.now c.args.text.now

pub returns-in-None-is_disabled : goal.returns-in-None-is_disabled
returns-in-None-is_disabled c = no_line c.args.table.now c.args.text.now
