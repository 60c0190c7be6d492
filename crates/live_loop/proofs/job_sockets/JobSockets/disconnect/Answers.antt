-- The client is there no more.
use Rattle.std.proofs.Common.{inr, subst, sym}
use Rattle.live_loop.specs.Rounds.{Disconnects, nothing}
use Rattle.live_loop.proofs.RoundsLemmas.{coming_same}
use Rattle.job_clients.specs.Callers.{coming_in}
use Rattle.live_loop.proofs.job_sockets.JobSockets.disconnect.Goals as goal

pub returns-in_default-clause-asks : goal.returns-in_default-clause-asks
returns-in_default-clause-asks g c = nothing

pub returns-in_default-clause-gone : goal.returns-in_default-clause-gone
returns-in_default-clause-gone g c = inr (c.args.key, c.remove.ensures.gone)

pub returns-in-Some-loss-clause-gone : goal.returns-in-Some-loss-clause-gone
returns-in-Some-loss-clause-gone g c =
    subst (λ coming. Disconnects (coming_in c.args.self.now.callers) coming) (sym (coming_same c.tell.ensures.callers)) (inr (c.args.key, c.remove.ensures.gone))

pub returns-in-None-clause-asks : goal.returns-in-None-clause-asks
returns-in-None-clause-asks g c = nothing

pub returns-in-None-clause-gone : goal.returns-in-None-clause-gone
returns-in-None-clause-gone g c = inr (c.args.key, c.remove.ensures.gone)
