-- The goals of `zone::minute_of` that the prover leaves open.
use Rattle.std.proofs.Common.{◌∙◌, ap, sym, arith, ℤ, ℕ, w8, w16, unsigned_abs, ◌+◌, ◌%◌, to_z, of_z}
use Rattle.jiff_tz.proofs.YearLemmas.{back_year}
use Rattle.calendar_due.proofs.MinuteLemmas.{shown_minute-civil_seconds, same_fields, sunday_zero-monday_zero, small_back}
use Rattle.jiff_core.specs.Weekday.{sunday_zero}
use Rattle.jiff_core.proofs.CalendarLemmas.{days_in_month_bounds}
use Rattle.calendar_due.proofs.zone.minute_of.Goals as goal

pub returns : goal.returns
returns c =
    let shown = shown_minute-civil_seconds c.args.shown in
    let date = c.args.shown.date in
    let back : ℤ → ℕ = λ z. unsigned_abs (to_z w8 (of_z w8 z)) in
    same_fields _ _ _ _ _ _ _ _ _ _ _ _
    (ap (λ y. to_z w16 (of_z w16 y)) c.year.ensures ∙ back_year date.year date.year_in)
    (c.unsigned_abs.ensures.value ∙ ap back c.month.ensures ∙ small_back date.month (omega (arith, c.args.shown.date.month_in)))
    (c.unsigned_abs-2.ensures.value ∙ ap back c.day.ensures ∙ small_back date.day (omega (arith, date.day_in, days_in_month_bounds date.year date.month)))
    (c.unsigned_abs-3.ensures.value ∙ ap back c.hour.ensures ∙ small_back c.args.shown.time.hour (omega (arith, c.args.shown.time.hour_in)))
    (c.unsigned_abs-4.ensures.value ∙ ap back c.minute.ensures ∙ small_back c.args.shown.time.minute (omega (arith, c.args.shown.time.minute_in)))
    (c.unsigned_abs-5.ensures.value ∙ ap back c.to_sunday_zero_offset.ensures.value
    ∙ small_back (sunday_zero c.weekday.result) (rw (sunday_zero-monday_zero c.weekday.result) (omega arith))
    ∙ sunday_zero-monday_zero c.weekday.result ∙ ap (λ w. (w + 1) % 7) c.weekday.ensures)
    ∙ sym shown
