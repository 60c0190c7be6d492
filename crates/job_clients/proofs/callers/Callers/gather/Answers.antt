-- What came of one client.
use Rattle.job_clients.proofs.CallersLemmas.{grows_by}
use Rattle.job_clients.proofs.callers.Callers.gather.Goals as goal

pub returns-clause-grows : goal.returns-clause-grows
returns-clause-grows g c = grows_by g.C.Sender.remaining c.args.key c.receive.result _ _ c.receive.ensures
