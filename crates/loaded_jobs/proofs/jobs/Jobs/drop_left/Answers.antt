-- The three cases.
use Rattle.std.proofs.Common.{sym, subst}
use Rattle.loaded_jobs.specs.Leaving.{StayBut}
use Rattle.loaded_jobs.proofs.LeavingLemmas.{filter-all}
use Rattle.loaded_jobs.proofs.jobs.Jobs.drop_left.Goals as goal

pub returns-in-Nobody-clause-job_slots : goal.returns-in-Nobody-clause-job_slots
returns-in-Nobody-clause-job_slots c =
    sym (filter-all c.args.self.now.job_slots.items (subst (λ g. StayBut g c.args.self.now.job_slots.items) c.in-Nobody.is c.requires.left))

pub drop_one-requires-clause-others : goal.drop_one-requires-clause-others
drop_one-requires-clause-others c = subst (λ g. StayBut g c.args.self.now.job_slots.items) c.in-One.is c.requires.left
