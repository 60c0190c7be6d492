use Rattle.job_core.specs.JobMoments.{may_term_when}
use Rattle.scope.proofs.texts.since.term_since.Goals as goal

pub returns : goal.returns
returns c = λ past are. c.came_since.ensures (λ at. may_term_when at past) are.term
