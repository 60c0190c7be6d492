-- The clocks are asked once at most.
use Rattle.live_loop.specs.Rounds.{nothing}
use Rattle.live_loop.proofs.RoundsLemmas.{asks_one}
use Rattle.live_loop.proofs.rounds.next_wait.Goals as goal

pub returns-then-live-clause-asks : goal.returns-then-live-clause-asks
returns-then-live-clause-asks g c = nothing

pub returns-clause-asks : goal.returns-clause-asks
returns-clause-asks g c = asks_one c.up_now-up.ensures
