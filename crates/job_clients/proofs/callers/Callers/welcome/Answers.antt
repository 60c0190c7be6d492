-- A client is held, if there was memory for it.
use Rattle.std.proofs.Common.{rules, refl}
use Rattle.job_clients.proofs.CallersLemmas.{inserted, may_come_in}
use Rattle.job_clients.proofs.callers.Callers.welcome.Goals as goal

pub returns-in-Ok-register-clause-welcomes : goal.returns-in-Ok-register-clause-welcomes
returns-in-Ok-register-clause-welcomes g c =
    inserted g.C.Sender.remaining c.args.origin c.args.client _ c.insert.result _ _ c.insert.ensures.was_vacant c.insert.ensures.updates c.insert.ensures.err refl (search rules) c.register.ensures

pub returns-in-Ok-register-clause-comes : goal.returns-in-Ok-register-clause-comes
returns-in-Ok-register-clause-comes g c =
    may_come_in g.C.Sender.remaining c.args.origin c.args.client _ _
    (inserted g.C.Sender.remaining c.args.origin c.args.client _ c.insert.result _ _ c.insert.ensures.was_vacant c.insert.ensures.updates c.insert.ensures.err refl (search rules) c.register.ensures)
