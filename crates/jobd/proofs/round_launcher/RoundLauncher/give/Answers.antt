-- The clock reading, and then the input.
use Rattle.std.proofs.Common.{refl}
use Rattle.jobd.proofs.round_launcher.RoundLauncher.give.Goals as goal

pub returns-clause-gives : goal.returns-clause-gives
returns-clause-gives g c = record {
  mid = c.deliver_time.new.self;
  reading = c.deliver_time.ensures;
  received = record { turn = c.turn.ensures.turn; writable = c.turn.ensures.writable };
  at = refl;
  sleep = (refl, refl);
  loaded = refl;
  refused = refl;
}
