-- The goals of `laws::a_minute_in_a_fold_fires_twice` that the prover leaves open.
use Rattle.calendar_due.proofs.ChangeLemmas.{two_showings, only_showings}
use Rattle.calendar_due.proofs.CalendarLemmas.{showing_fires}
use Rattle.calendar_due.proofs.laws.a_minute_in_a_fold_fires_twice.Goals as goal

pub returns-clause-two : goal.returns-clause-two
returns-clause-two c = two_showings

pub returns-clause-only : goal.returns-clause-only
returns-clause-only c = only_showings

pub returns-clause-fires : goal.returns-clause-fires
returns-clause-fires c = λ ahead change first second before after at is fold are entry previous now matched crossed.
    let two = two_showings ahead change first second before after at is fold are in
    showing_fires ahead first second at two.1 two.2 entry previous now matched crossed
