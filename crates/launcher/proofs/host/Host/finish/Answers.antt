-- The step's orders, and then the answers.
use Rattle.std.proofs.Common.{List, subst}
use Rattle.outside.specs.declared.pending_answer.PendingAnswer.{PendingAnswer}
use Rattle.launcher.specs.HostTurns.{Executed}
use Rattle.launcher.proofs.FinishingLemmas.{finished}
use Rattle.launcher.proofs.host.Host.finish.Goals as goal

pub returns-clause-finished : goal.returns-clause-finished
returns-clause-finished g c = λ before s e line written noted short led keeps taken.
    finished before c.args.self.now.table c.settle.new.self.table s e line c.last_step.result c.execute_all.new.answers c.settle.new.self.answers (g.E.Edge.told c.args.self.now.edge) (g.E.Edge.told c.execute_all.new.edge) (g.E.Edge.told c.settle.new.self.edge)
    written c.args.self.now.journal c.settle.new.self.journal
    c.last_step.ensures.orders c.last_step.ensures.known c.last_step.ensures.names c.last_step.ensures.numbered
    (subst (λ (ps : List PendingAnswer). Executed c.last_step.result.orders.now ps c.execute_all.new.answers (g.E.Edge.told c.args.self.now.edge) (g.E.Edge.told c.execute_all.new.edge)) c.requires c.execute_all.ensures)
    c.settle.ensures.settled noted short led keeps taken
