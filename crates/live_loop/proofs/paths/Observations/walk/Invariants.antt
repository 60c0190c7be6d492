-- What the path checks so far have done.
use Rattle.std.proofs.Common.{◌≡◌, true}
use Rattle.live_loop.specs.Looks.{Walks}
use Rattle.live_loop.specs.Observing.{known_in, path_in, later_in}
use Rattle.live_loop.proofs.paths.Observations.walk.Given as goal

abbrev pub invariant-loop : goal.invariant-loop
invariant-loop g l = record {
  walk : Walks g.H.PathHost.IsNext g.H.PathHost.Did l.fn.host (known_in l.fn.self) (path_in l.fn.self) l.counter (path_in l.self) l.host (known_in l.self);
  later : later_in l.self ≡ later_in l.fn.self;
  walking : l.self.is_walking ≡ true;
}
