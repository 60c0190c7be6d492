-- What was asked so far.
use Rattle.std.proofs.Common.{◌≡◌}
use Rattle.live_loop.specs.Rounds.{Asks}
use Rattle.live_loop.specs.Kept.{IsKeptBy}
use Rattle.live_loop.proofs.telling.tell.Given as goal

abbrev pub invariant-loop : goal.invariant-loop
invariant-loop g l = record {
  asks : Asks g.H.LoopHost.Asked l.fn.live.host l.live.host;
  kept : IsKeptBy l.fn.live l.live;
  ended : l.live.ended_at ≡ l.fn.live.ended_at;
}
