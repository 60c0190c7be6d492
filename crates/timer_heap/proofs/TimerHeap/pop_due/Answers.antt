-- The job's moment is taken away.
use Rattle.timer_heap.proofs.FewerLemmas.{one-less}
use Rattle.timer_heap.proofs.TimerHeap.pop_due.Goals as goal

pub returns-clause-fewer : goal.returns-clause-fewer
returns-clause-fewer c = one-less c.args.self.now c.clear.new.self c.in_ok-job.job c.in_ok-job.moment c.clear.ensures c.in_ok-job.ensures.0
