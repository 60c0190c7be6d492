-- The clocks are asked, and then the edge.
use Rattle.live_loop.proofs.RoundsLemmas.{asks_append}
use Rattle.live_loop.proofs.rounds.wait.Goals as goal

pub returns-in_err-wait-clause-asks : goal.returns-in_err-wait-clause-asks
returns-in_err-wait-clause-asks g c = asks_append c.next_wait-wait.ensures.asks c.must_nap-is_nap.ensures.asks

pub returns-clause-asks : goal.returns-clause-asks
returns-clause-asks g c = asks_append c.next_wait-wait.ensures.asks c.must_nap-is_nap.ensures.asks
