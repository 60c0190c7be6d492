-- The edge is asked once at most.
use Rattle.live_loop.specs.Rounds.{nothing}
use Rattle.live_loop.proofs.RoundsLemmas.{asks_one}
use Rattle.live_loop.proofs.rounds.must_nap.Goals as goal

pub returns-then-live-eq0-clause-asks : goal.returns-then-live-eq0-clause-asks
returns-then-live-eq0-clause-asks g c = nothing

pub returns-then-wait-eq0-clause-asks : goal.returns-then-wait-eq0-clause-asks
returns-then-wait-eq0-clause-asks g c = nothing

pub returns-clause-asks : goal.returns-clause-asks
returns-clause-asks g c = asks_one c.is_woken_by_exits.ensures
