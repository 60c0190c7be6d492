-- What became of clients so far.
use Rattle.live_loop.specs.Kept.{desk_in}
use Rattle.live_loop.specs.Rounds.{Gathers}
use Rattle.live_loop.proofs.job_sockets.JobSockets.receive_all.Given as goal

abbrev pub invariant-loop-step : goal.invariant-loop-step
invariant-loop-step g l =
    Gathers g.H.LoopHost.Asked g.H.LoopHost.Taken g.H.LoopHost.Came (desk_in l.fn.self) l.fn.host (desk_in l.self) l.host
