-- Those who send are heard, then those whose request is whole are delivered.
use Rattle.live_loop.specs.Rounds.{nobody}
use Rattle.live_loop.proofs.RoundsLemmas.{gathers_append}
use Rattle.live_loop.proofs.job_sockets.JobSockets.gather.Goals as goal

pub returns-then-is_empty : goal.returns-then-is_empty
returns-then-is_empty g c = nobody

pub returns : goal.returns
returns g c = gathers_append c.receive_all-is_busy.ensures c.deliver_line-is_late.ensures
