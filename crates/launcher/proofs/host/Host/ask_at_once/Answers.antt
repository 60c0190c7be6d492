-- What is asked is heard at once.
use Rattle.std.proofs.Common.{ap, ◌∙◌}
use Rattle.ctl_protocol.specs.Requests.{event_with}
use Rattle.launcher.specs.Inputs.{asked}
use Rattle.launcher.proofs.ReceivingLemmas.{prompt}
use Rattle.launcher.proofs.host.Host.ask_at_once.Goals as goal

pub returns : goal.returns
returns g c =
    let same = c.with-event.ensures ∙ ap (λ o. event_with o c.args.request.now) c.unasked.ensures in
    record { turn = c.receive_at_once.ensures.turn (asked c.args.request.now) (prompt c.args.request.now c.with-event.result c.requires same) }
