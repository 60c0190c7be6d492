-- The goals of `Calendar::next` that the prover leaves open.
use Rattle.calendar_due.specs.ZoneRules.{minute_at}
use Rattle.calendar_due.proofs.NextLemmas.{first-fires}
use Rattle.calendar_due.proofs.calendar.Calendar.next.Goals as goal

pub returns-clause-fires : goal.returns-clause-fires
returns-clause-fires c = λ wall inside near.
    first-fires (minute_at c.args.zone.now) c.args.entries.now c.args.after c.args.until wall c.first_due.result c.first_due.ensures inside near
