-- What became of clients so far.
use Rattle.std.proofs.Common.{◌≡◌}
use Rattle.live_loop.specs.Kept.{desk_in}
use Rattle.live_loop.specs.Rounds.{Gathers}
use Rattle.live_loop.proofs.job_sockets.JobSockets.accept_for.Given as goal

abbrev pub invariant-loop-count : goal.invariant-loop-count
invariant-loop-count g l = record {
  gathers : Gathers g.H.LoopHost.Asked g.H.LoopHost.Taken g.H.LoopHost.Came (desk_in l.fn.self) l.fn.host (desk_in l.self) l.host;
  conn : l.self.conn ≡ l.fn.self.conn;
}
