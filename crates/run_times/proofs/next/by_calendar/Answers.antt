-- What keeps the calendar from a start, and from when on it starts the job.
use Rattle.std.proofs.Common.{◌+◌, ◌*◌, unwrap_or, nat_le, ap, sym, ◌∙◌, arith, rules}
use Rattle.std.specs.Prelude.{max}
use Rattle.history_model.specs.declared.TheConstants.{SECOND}
use Rattle.history_model.specs.Calendar.{calendar_fires}
use Rattle.history_model.specs.Reasons.{needs_event}
use Rattle.calendar_due.specs.ZoneRules.{minute_at}
use Rattle.run_times.proofs.NextRunLemmas.{none_starts, kept_out, not_fired, minute_starts}
use Rattle.run_times.proofs.next.by_calendar.Goals as goal

pub returns-then-is_empty : goal.returns-then-is_empty
returns-then-is_empty c = λ d near.
    none_starts (minute_at c.args.zone.now) c.args.entries.now c.args.now.wall (c.args.now.wall + d) (needs_event c.args.reasons.now)
    (nat_le (unwrap_or c.args.reasons.now.throttled_until 0) (c.args.now.up + SECOND * d)) (sym c.is_empty.ensures ∙ c.if-is_empty.true)

pub returns-then-needs_event : goal.returns-then-needs_event
returns-then-needs_event c = λ d near.
    kept_out (needs_event c.args.reasons.now) (calendar_fires (minute_at c.args.zone.now) c.args.entries.now c.args.now.wall (c.args.now.wall + d))
    (nat_le (unwrap_or c.args.reasons.now.throttled_until 0) (c.args.now.up + SECOND * d)) (sym c.needs_event.ensures ∙ c.if-needs_event.true)

pub returns-in-None : goal.returns-in-None
returns-in-None c = λ d near.
    not_fired (needs_event c.args.reasons.now) (calendar_fires (minute_at c.args.zone.now) c.args.entries.now c.args.now.wall (c.args.now.wall + d))
    (nat_le (unwrap_or c.args.reasons.now.throttled_until 0) (c.args.now.up + SECOND * d))
    (c.in-None.ensures.fires (c.args.now.wall + d) (omega (arith, near)) (omega (arith, near, c.requires.days)))

pub returns-in-Some : goal.returns-in-Some
returns-in-Some c = λ d near.
    (λ i. nat_le ((c.max.ensures ∙ ap (λ n. max n c.seconds_until.result) c.saturating_sub-fires.ensures) i) d)
    ∙ minute_starts (needs_event c.args.reasons.now) (calendar_fires (minute_at c.args.zone.now) c.args.entries.now c.args.now.wall (c.args.now.wall + d))
    (nat_le (unwrap_or c.args.reasons.now.throttled_until 0) (c.args.now.up + SECOND * d)) c.in-Some.minute c.args.now.wall c.seconds_until.result d
    (sym c.needs_event.ensures ∙ c.if-needs_event.false)
    (c.in-Some.ensures.fires (c.args.now.wall + d) (omega (arith, near)) (omega (arith, near, c.requires.days)))
    (search rules)
