-- What happened is heard at once.
use Rattle.launcher.specs.Inputs.{happened}
use Rattle.launcher.proofs.ReceivingLemmas.{happening}
use Rattle.launcher.proofs.host.Host.happen.Goals as goal

pub returns-clause-turn : goal.returns-clause-turn
returns-clause-turn g c = c.receive_at_once.ensures.turn (happened c.args.what.now) (happening c.args.what.now c.requires)
