-- The goals of `next_day_on` that the prover leaves open.
use Rattle.std.proofs.Common.{sym, ◌∙◌}
use Rattle.calendar_due.proofs.DayNextLemmas.{idle-more}
use Rattle.calendar_due.proofs.calendar.next_day_on.Goals as goal

pub loop-day-preserved : goal.loop-day-preserved
loop-day-preserved c =
    idle-more c.in-Ok.utc c.args.entries.now c.args.from c.loop-day.day c.loop-day.invariant c.in-Ok.ensures.zone
    (rw (sym c.civil_minute.ensures) (sym c.is_any_on_day.ensures ∙ c.if-is_any_on_day.false))
