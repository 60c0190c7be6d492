-- A further client.
use Rattle.live_loop.specs.Rounds.{nobody}
use Rattle.live_loop.proofs.RoundsLemmas.{gathers_append, gathers_received}
use Rattle.live_loop.proofs.job_sockets.JobSockets.receive_all.Goals as goal

pub loop-step-init : goal.loop-step-init
loop-step-init g c = nobody

pub loop-step-preserved-then-matches : goal.loop-step-preserved-then-matches
loop-step-preserved-then-matches g c = gathers_received c.loop-step.invariant c.gathered-what.ensures.grows c.gathered-what.ensures.conn c.gathered-what.ensures.asks

pub returns-then-not-has_time : goal.returns-then-not-has_time
returns-then-not-has_time g c =
    gathers_append (gathers_received c.loop-step.invariant c.gathered-what.ensures.grows c.gathered-what.ensures.conn c.gathered-what.ensures.asks) c.settle-goes_on.ensures

pub loop-step-preserved : goal.loop-step-preserved
loop-step-preserved g c =
    gathers_append (gathers_received c.loop-step.invariant c.gathered-what.ensures.grows c.gathered-what.ensures.conn c.gathered-what.ensures.asks) c.settle-goes_on.ensures
