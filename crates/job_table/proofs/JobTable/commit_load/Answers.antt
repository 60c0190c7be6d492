-- The jobs' own clause, of the table that contracts see.
use Rattle.std.proofs.Common.{Bool, subst}
use Rattle.std.specs.Prelude.{is_some, Ok}
use Rattle.history_model.specs.Machine.{Load}
use Rattle.history_model.specs.Definitions.{given}
use Rattle.loaded_jobs.specs.Sound.{seen_table}
use Rattle.loaded_jobs.specs.Touching.{SparesOthers}
use Rattle.job_table.proofs.JobTable.commit_load.Goals as goal

pub returns-clause-spared : goal.returns-clause-spared
returns-clause-spared c =
    subst (λ t. (force bind store : Bool) → SparesOthers (Load (Ok (given c.args.ready.job_slot.def)) (is_some c.args.ready.setting) force bind store) t (seen_table c.load.new.self))
    c.self.view_is c.load.ensures.goes.spared
