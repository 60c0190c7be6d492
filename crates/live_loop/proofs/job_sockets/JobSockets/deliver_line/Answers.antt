-- A further client.
use Rattle.live_loop.specs.Rounds.{nobody}
use Rattle.live_loop.proofs.RoundsLemmas.{gathers_append}
use Rattle.live_loop.proofs.job_sockets.JobSockets.deliver_line.Goals as goal

pub loop-init : goal.loop-init
loop-init g c = nobody

pub returns-then-not-has_time : goal.returns-then-not-has_time
returns-then-not-has_time g c = gathers_append c.loop.invariant c.deliver_if_placed.ensures

pub loop-preserved : goal.loop-preserved
loop-preserved g c = gathers_append c.loop.invariant c.deliver_if_placed.ensures
