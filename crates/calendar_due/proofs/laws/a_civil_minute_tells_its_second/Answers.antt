-- The goals of `laws::a_civil_minute_tells_its_second` that the prover leaves open.
use Rattle.calendar_due.proofs.DateLemmas.{start_of-shown_minute, shown_minute-civil}
use Rattle.calendar_due.proofs.laws.a_civil_minute_tells_its_second.Goals as goal

pub returns-clause-begun : goal.returns-clause-begun
returns-clause-begun c = λ shown low. (start_of-shown_minute shown low).0

pub returns-clause-within : goal.returns-clause-within
returns-clause-within c = λ shown low. (start_of-shown_minute shown low).1

pub returns-clause-civil : goal.returns-clause-civil
returns-clause-civil c = shown_minute-civil
