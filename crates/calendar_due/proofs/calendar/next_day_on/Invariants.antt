-- What holds at each turn of the loop of `next_day_on`.
use Rattle.calendar_due.specs.Days.{AreIdle}
use Rattle.calendar_due.proofs.calendar.next_day_on.Given as goal

abbrev pub invariant-loop-day : goal.invariant-loop-day
invariant-loop-day l = AreIdle l.entries l.from l.day
