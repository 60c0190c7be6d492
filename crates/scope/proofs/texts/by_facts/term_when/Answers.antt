use Rattle.job_core.specs.JobMoments.{may_term_when}
use Rattle.scope.proofs.texts.by_facts.term_when.Goals as goal

pub returns : goal.returns
returns c = λ past are. c.order_when.ensures (λ at. may_term_when at past) are.term
