-- It is asked whether there is a place.
use Rattle.live_loop.specs.Rounds.{nobody, asked}
use Rattle.live_loop.proofs.RoundsLemmas.{gathers_append}
use Rattle.live_loop.proofs.job_sockets.JobSockets.deliver_if_placed.Goals as goal

pub returns-in_default : goal.returns-in_default
returns-in_default g c = nobody

pub returns-then-must_wait : goal.returns-then-must_wait
returns-then-must_wait g c = asked nobody c.must_wait.ensures

pub returns : goal.returns
returns g c = gathers_append (asked nobody c.must_wait.ensures) c.deliver.ensures
