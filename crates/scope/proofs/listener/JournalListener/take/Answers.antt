-- The journal that is open receives a line that is not a header.
use Rattle.scope.proofs.ReceivingLemmas.{receives_on}
use Rattle.scope.proofs.listener.JournalListener.take.Goals as goal

pub returns-in-Ok : goal.returns-in-Ok
returns-in-Ok c = receives_on c.args.self.now.journal c.in-Some.journal c.take.new.self c.args.line.now c.args.is_header c.in-Some.is c.if-not-is_header.true c.in-Ok.ensures
