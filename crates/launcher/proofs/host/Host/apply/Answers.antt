-- The event, and then the answers.
use Rattle.launcher.proofs.TurnsLemmas.{turned-from, refused-from}
use Rattle.launcher.proofs.host.Host.apply.Goals as goal

pub returns-in-Ok-clause-turn : goal.returns-in-Ok-clause-turn
returns-in-Ok-clause-turn g c =
    turned-from c.args.what.now c.receive.result c.in-Ok.text c.args.self.now.table c.receive.new.table c.settle.new.self.table _ _ _ _ _ _ _ _ _ c.in-Ok.is c.clear.ensures c.receive.ensures.happens
    c.note.ensures c.settle.ensures.settled

pub returns-in-Err-clause-turn : goal.returns-in-Err-clause-turn
returns-in-Err-clause-turn g c =
    refused-from c.args.what.now c.receive.result c.in-Err.refusal c.args.self.now.table c.receive.new.table _ _ _ _ _ _ c.in-Err.is c.clear.ensures
    c.note-in-Err.ensures c.receive.ensures.happens
