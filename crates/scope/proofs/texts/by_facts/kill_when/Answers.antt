use Rattle.job_core.specs.JobMoments.{may_kill_when}
use Rattle.scope.proofs.texts.by_facts.kill_when.Goals as goal

pub returns : goal.returns
returns c = λ past are. c.order_when.ensures (λ at. may_kill_when at past) are.kill
