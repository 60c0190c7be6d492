-- The clients are the same.
use Rattle.std.proofs.Common.{refl}
use Rattle.live_loop.proofs.RoundsLemmas.{desk_same}
use Rattle.live_loop.proofs.job_sockets.JobSockets.begin_pass.Goals as goal

pub returns-then-self-eq0-clause-desk : goal.returns-then-self-eq0-clause-desk
returns-then-self-eq0-clause-desk c = desk_same refl c.begin_pass.ensures.coming
