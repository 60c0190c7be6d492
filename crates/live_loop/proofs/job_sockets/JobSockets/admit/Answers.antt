-- Nothing is asked.
use Rattle.std.proofs.Common.{inl, inr, subst, sym}
use Rattle.job_clients.specs.Callers.{MayComeIn, coming_in}
use Rattle.live_loop.specs.Rounds.{nothing}
use Rattle.live_loop.proofs.RoundsLemmas.{coming_same}
use Rattle.live_loop.proofs.job_sockets.JobSockets.admit.Goals as goal

pub returns-in-Ok-clause-asks : goal.returns-in-Ok-clause-asks
returns-in-Ok-clause-asks g c = nothing

pub returns-in-Err-clause-comes : goal.returns-in-Err-clause-comes
returns-in-Err-clause-comes g c =
    subst (λ coming. MayComeIn c.args.origin (coming_in c.args.self.now.callers) coming) (sym (coming_same c.tell.ensures.callers)) c.welcome.ensures.comes
