-- The launcher's turn is that of the clock reading.
use Rattle.std.proofs.Common.{refl, rules}
use Rattle.jobd.proofs.round_launcher.RoundLauncher.receive_time.Goals as goal

pub returns : goal.returns
returns g c = record {
  refusal = c.turn-reply.result.refusal;
  words = c.turn-reply.result.text;
  received = record { turn = c.turn-reply.ensures.turn; writable = c.turn-reply.ensures.writable };
  at = refl;
  sleep = (refl, refl);
  loaded = refl;
  refused = search rules;
}
