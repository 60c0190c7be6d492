-- What the questions so far have done.
use Rattle.live_loop.specs.Looks.{Questions}
use Rattle.live_loop.specs.Observing.{IsStill}
use Rattle.live_loop.proofs.paths.Observations.ask_ahead.Given as goal

abbrev pub invariant-loop : goal.invariant-loop
invariant-loop g l = record {
  asks : Questions g.H.PathHost.IsNext g.H.PathHost.Did l.initial.host l.host;
  still : IsStill l.initial.self l.self;
}
