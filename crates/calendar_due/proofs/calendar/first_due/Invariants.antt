-- What holds at each turn of the loop of `first_due`.
use Rattle.std.proofs.Common.{◌-◌}
use Rattle.calendar_due.specs.Days.{AreIdle}
use Rattle.calendar_due.proofs.DayNextLemmas.{AreFrom}
use Rattle.calendar_due.proofs.calendar.first_due.Given as goal

abbrev pub invariant-loop-day : goal.invariant-loop-day
invariant-loop-day l = AreFrom l.zone l.entries l.after l.until l.day × AreIdle l.entries (l.day - 2) l.next
