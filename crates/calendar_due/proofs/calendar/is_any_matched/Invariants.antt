-- What holds at each turn of the loop of `is_any_matched`.
use Rattle.std.proofs.Common.{◌≡◌, false, take}
use Rattle.std.specs.List.{list_any}
use Rattle.history_model.specs.Calendar.{matches}
use Rattle.calendar_due.specs.Days.{IsIdle}
use Rattle.calendar_due.proofs.calendar.is_any_matched.Given as goal

abbrev pub invariant-loop-minute : goal.invariant-loop-minute
invariant-loop-minute l =
    (list_any (λ minute. list_any (λ entry. matches entry minute) l.entries) (take l.minute-index l.minutes) ≡ false) × IsIdle l.entries l.idle
