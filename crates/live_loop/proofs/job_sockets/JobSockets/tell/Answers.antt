-- The edge is asked once.
use Rattle.live_loop.proofs.RoundsLemmas.{asks_one}
use Rattle.live_loop.proofs.job_sockets.JobSockets.tell.Goals as goal

pub returns-then-listens_at-clause-asks : goal.returns-then-listens_at-clause-asks
returns-then-listens_at-clause-asks g c = asks_one c.listens_at.ensures

pub returns-else-listens_at-clause-asks : goal.returns-else-listens_at-clause-asks
returns-else-listens_at-clause-asks g c = asks_one c.listens_at.ensures
