-- The goals of `laws::a_text_has_one_clock` that the prover leaves open.
use Rattle.calendar_due.proofs.RuleLemmas.{one_clock}
use Rattle.calendar_due.proofs.laws.a_text_has_one_clock.Goals as goal

pub returns : goal.returns
returns c = one_clock
