-- Nothing is asked, or one is disconnected, or waits with the request that it has.
use Rattle.std.proofs.Common.{refl}
use Rattle.live_loop.specs.Rounds.{nobody, went}
use Rattle.live_loop.proofs.RoundsLemmas.{desk_same, gathers_asks, gathers_same}
use Rattle.live_loop.proofs.job_sockets.JobSockets.settle.Goals as goal

pub returns-in-Waits : goal.returns-in-Waits
returns-in-Waits g c = nobody

pub returns-in-MayGoOn : goal.returns-in-MayGoOn
returns-in-MayGoOn g c = nobody

pub returns-in-Whole : goal.returns-in-Whole
returns-in-Whole g c = gathers_same nobody (desk_same refl c.line_up.ensures)

pub returns-in-Lost : goal.returns-in-Lost
returns-in-Lost g c = gathers_asks (gathers_same (went nobody c.disconnect.ensures.gone) (desk_same c.disconnect.ensures.conn refl)) c.disconnect.ensures.asks
