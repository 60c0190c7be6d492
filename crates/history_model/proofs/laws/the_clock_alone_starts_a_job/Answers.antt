-- The goals of `laws::the_clock_alone_starts_a_job` that the prover leaves open.
use Rattle.history_model.proofs.ReasonsLemmas.{reading-due, moment-due}
use Rattle.history_model.proofs.laws.the_clock_alone_starts_a_job.Goals as goal

pub returns-clause-reading : goal.returns-clause-reading
returns-clause-reading c = reading-due

pub returns-clause-moment : goal.returns-clause-moment
returns-clause-moment c = moment-due
