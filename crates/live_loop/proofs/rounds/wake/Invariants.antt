-- The number of the next client and the others stay.
use Rattle.std.proofs.Common.{◌≡◌}
use Rattle.live_loop.specs.Kept.{desk_in}
use Rattle.live_loop.proofs.rounds.wake.Given as goal

abbrev pub invariant-loop-event : goal.invariant-loop-event
invariant-loop-event l = desk_in l.sockets ≡ desk_in l.fn.sockets
