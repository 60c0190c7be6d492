-- What is asked for a notice.
use Rattle.std.proofs.Common.{subst, sym}
use Rattle.live_loop.specs.Rounds.{Asks, nothing, further}
use Rattle.live_loop.proofs.RoundsLemmas.{asks_one}
use Rattle.live_loop.proofs.telling.next_notice.Goals as goal

pub returns-in-Some-clause-asks : goal.returns-in-Some-clause-asks
returns-in-Some-clause-asks g c = nothing

pub returns-in-Some-next_notice-clause-asks : goal.returns-in-Some-next_notice-clause-asks
returns-in-Some-next_notice-clause-asks g c = asks_one c.next_notice.ensures

pub returns-clause-asks : goal.returns-clause-asks
returns-clause-asks g c =
    subst (λ host. Asks g.H.LoopHost.Asked c.args.live.now.host host) (sym c.next_refusal.ensures.host)
    (further (asks_one c.next_notice.ensures) c.report_journal_closing.ensures)
