-- What holds at each turn of the loops of `Zone::crossed`, and why each ends.
use Rattle.std.proofs.Common.{◌≡◌, ◌-◌, ◌≤◌, max, map}
use Rattle.history_model.specs.Calendar.{minutes_above}
use Rattle.calendar_due.specs.ZoneRules.{minute_at}
use Rattle.calendar_due.proofs.zone.Zone.crossed.Given as goal

abbrev pub invariant-loop-k : goal.invariant-loop-k
invariant-loop-k l =
    (l.minutes.items ≡ map (minute_at l.self) (minutes_above l.last_before (l.k - l.last_before))) × (l.k ≤ max l.last_before l.k-end)
