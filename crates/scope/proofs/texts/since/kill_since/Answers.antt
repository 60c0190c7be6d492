use Rattle.job_core.specs.JobMoments.{may_kill_when}
use Rattle.scope.proofs.texts.since.kill_since.Goals as goal

pub returns : goal.returns
returns c = λ past are. c.came_since.ensures (λ at. may_kill_when at past) are.kill
