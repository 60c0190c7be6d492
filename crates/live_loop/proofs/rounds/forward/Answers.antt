-- What is asked before the pass ends.
use Rattle.live_loop.specs.Rounds.{further}
use Rattle.live_loop.proofs.RoundsLemmas.{asks_one}
use Rattle.live_loop.proofs.rounds.forward.Goals as goal

pub returns-clause-asks : goal.returns-clause-asks
returns-clause-asks g c = further (asks_one c.report_journal_closing.ensures) c.forward.ensures
