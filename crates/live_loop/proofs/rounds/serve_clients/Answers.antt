-- All clients in order.
use Rattle.live_loop.specs.Rounds.{nobody}
use Rattle.live_loop.proofs.RoundsLemmas.{gathers_append, gathers_same}
use Rattle.live_loop.proofs.rounds.serve_clients.Goals as goal

pub returns-clause-serves : goal.returns-clause-serves
returns-clause-serves g c = record {
  first = c.serve_control-was_asking.new.live.host;
  serves = c.serve_control-was_asking.ensures.serves;
  mid = c.gather-is_sending.new.host;
  gathers = gathers_same
      (gathers_same
      (gathers_append
      (gathers_append (gathers_same nobody c.serve_control-was_asking.ensures.kept.desk) c.accept.ensures.gathers)
      c.gather-is_sending.ensures)
      c.serve_again-is_asking.ensures.kept.desk)
      c.forward-is_taking.ensures.kept.desk;
  last = c.serve_again-is_asking.new.live.host;
  again = c.serve_again-is_asking.ensures.serves;
  asks = c.forward-is_taking.ensures.asks;
}
