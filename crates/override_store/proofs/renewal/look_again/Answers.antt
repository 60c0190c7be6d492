-- The answers to the goals of `renewal::look_again`.
use Rattle.override_store.proofs.PlaceLemmas.{leads_keeps}
use Rattle.override_store.proofs.renewal.look_again.Goals as goal

pub returns-in-None-clause-holds : goal.returns-in-None-clause-holds
returns-in-None-clause-holds g c is = c.in-Ok.ensures.holds is c.in-None.is

pub returns-in-Some-clause-left : goal.returns-in-Some-clause-left
returns-in-Some-clause-left g c over is = leads_keeps (λ _. ⊥) _ _ _ (c.in-Ok.ensures.crash over is) (c.leave.ensures.found over)
