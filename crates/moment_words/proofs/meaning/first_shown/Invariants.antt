-- What holds at each turn of the loop of `first_shown`.
use Rattle.calendar_due.specs.ZoneRules.{minute_at}
use Rattle.moment_words.proofs.ShownLemmas.{AreBehind}
use Rattle.moment_words.proofs.meaning.first_shown.Given as goal

abbrev pub invariant-loop-k : goal.invariant-loop-k
invariant-loop-k l = AreBehind (minute_at l.zone) l.wanted l.after l.until l.k
