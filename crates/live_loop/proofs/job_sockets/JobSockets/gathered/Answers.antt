-- The edge is asked once at most.
use Rattle.std.proofs.Common.{inl, inr, refl}
use Rattle.live_loop.specs.Rounds.{nothing}
use Rattle.live_loop.proofs.RoundsLemmas.{asks_one}
use Rattle.live_loop.proofs.job_sockets.JobSockets.gathered.Goals as goal

pub returns-in_default-clause-asks : goal.returns-in_default-clause-asks
returns-in_default-clause-asks g c = nothing

pub returns-then-not-listens_at-clause-asks : goal.returns-then-not-listens_at-clause-asks
returns-then-not-listens_at-clause-asks g c = asks_one c.listens_at.ensures

pub returns-clause-asks : goal.returns-clause-asks
returns-clause-asks g c = asks_one c.listens_at.ensures

pub returns-clause-grows : goal.returns-clause-grows
returns-clause-grows g c = inr (c.args.key, c.gather-gathered.ensures.grows)
