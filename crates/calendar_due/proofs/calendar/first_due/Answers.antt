-- The goals of `first_due` that the prover leaves open.
use Rattle.std.proofs.Common.{◌-◌, subst, sym}
use Rattle.calendar_due.specs.Days.{AreIdle}
use Rattle.calendar_due.proofs.DayNextLemmas.{from-idle, idle-later}
use Rattle.calendar_due.proofs.calendar.first_due.Goals as goal
use Rattle.calendar_due.proofs.calendar.first_due.Goals.{then-next-day, else-next-day}

pub loop-day-preserved-then-day-next : goal.loop-day-preserved-then-day-next
loop-day-preserved-then-day-next c =
    let idle : AreIdle c.args.entries.now (c.loop-day.day - 2) c.if-next-day.next = elim c.if-next-day.branch [
      | then-next-day w ↦ subst (AreIdle c.args.entries.now (c.loop-day.day - 2)) (sym w.next-is) (subst (λ from. AreIdle c.args.entries.now from w.next_day_on-next.result) w.saturating_sub.ensures w.next_day_on-next.ensures)
      | else-next-day w ↦ subst (AreIdle c.args.entries.now (c.loop-day.day - 2)) (sym w.next-is) c.loop-day.invariant.1
    ] in (
      from-idle c.args.zone.now c.args.entries.now c.args.after c.args.until c.loop-day.day c.if-next-day.next c.loop-day.invariant.0 c.if-day-ge2.true c.if-day-next.true idle,
      idle-later c.args.entries.now c.loop-day.day c.if-next-day.next idle,
    )
