-- The goals of `laws::a_throttled_job_is_told_its_moment` that the prover leaves open.
use Rattle.history_model.proofs.ReasonsLemmas.{told, first-free, next-due}
use Rattle.history_model.proofs.laws.a_throttled_job_is_told_its_moment.Goals as goal

pub returns-clause-told : goal.returns-clause-told
returns-clause-told c = told

pub returns-clause-free : goal.returns-clause-free
returns-clause-free c = first-free

pub returns-clause-next : goal.returns-clause-next
returns-clause-next c = next-due
