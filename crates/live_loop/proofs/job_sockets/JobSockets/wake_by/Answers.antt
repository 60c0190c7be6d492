-- The clients are the same.
use Rattle.std.proofs.Common.{refl}
use Rattle.live_loop.proofs.RoundsLemmas.{desk_same}
use Rattle.live_loop.proofs.job_sockets.JobSockets.wake_by.Goals as goal

pub returns-else-eq : goal.returns-else-eq
returns-else-eq c = desk_same refl c.wake.ensures
