-- What holds at each turn of the loop of `first_minute`, and why it ends.
use Rattle.calendar_due.specs.ZoneRules.{minute_at}
use Rattle.calendar_due.proofs.NextLemmas.{AreBehind}
use Rattle.calendar_due.proofs.calendar.first_minute.Given as goal

abbrev pub invariant-loop-k : goal.invariant-loop-k
invariant-loop-k l = AreBehind (minute_at l.zone) l.entries l.after l.until l.k
