-- One is there no more.
use Rattle.std.proofs.Common.{None, ap}
use Rattle.std.specs.Option.{option_map}
use Rattle.job_clients.specs.Callers.{coming_of}
use Rattle.job_clients.proofs.CallersLemmas.{sets_by}
use Rattle.job_clients.proofs.callers.Callers.remove.Goals as goal

pub returns-clause-client : goal.returns-clause-client
returns-clause-client g c = ap (option_map coming_of) c.try_remove.ensures.value

pub returns-clause-gone : goal.returns-clause-gone
returns-clause-gone g c = sets_by c.args.key None _ _ c.try_remove.ensures.updates
