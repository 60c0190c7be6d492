-- What came so far.
use Rattle.job_clients.specs.Callers.{Receives}
use Rattle.job_clients.specs.declared.caller.Gathered.TheVariants.{MayGoOn}
use Rattle.job_clients.proofs.caller.Caller.gather.Given as goal

abbrev pub invariant-loop : goal.invariant-loop
invariant-loop g l = Receives g.C.Sender.remaining MayGoOn l.fn.self l.self
