-- The goals of `is_any_matched` that the prover leaves open.
use Rattle.std.proofs.Common.{refl, sym, ap, ◌∙◌, subst}
use Rattle.std.proofs.lemmas.List.{take_all}
use Rattle.std.specs.List.{list_any}
use Rattle.history_model.specs.Calendar.{matches}
use Rattle.calendar_due.specs.Days.{IsIdle}
use Rattle.calendar_due.proofs.DayLemmas.{idle-of, one-more, one-found}
use Rattle.calendar_due.proofs.calendar.is_any_matched.Goals as goal
use Rattle.calendar_due.proofs.calendar.is_any_matched.Goals.{then-not-is_any_on_day, else-not-is_any_on_day}

pub loop-minute-init : goal.loop-minute-init
loop-minute-init c = (refl, tt)

pub loop-minute-preserved-then-is_of_day : goal.loop-minute-preserved-then-is_of_day
loop-minute-preserved-then-is_of_day c = (
  one-more _ c.args.entries.now c.args.minutes.now c.loop-minute.minute-index c.loop-minute-test.true c.loop-minute.invariant.0
      (idle-of c.args.entries.now c.loop-minute.idle _ c.loop-minute.invariant.1 (sym c.is_of_day.ensures ∙ c.if-is_of_day.true)),
  c.loop-minute.invariant.1,
)

pub loop-minute-preserved : goal.loop-minute-preserved
loop-minute-preserved c =
    let more = one-more _ c.args.entries.now c.args.minutes.now c.loop-minute.minute-index c.loop-minute-test.true c.loop-minute.invariant.0
    (sym c.matches.ensures ∙ c.if-matches.false) in (
      more,
      elim c.if-not-is_any_on_day.branch [
        | then-not-is_any_on_day w ↦ subst (IsIdle c.args.entries.now) (sym w.idle-is) (sym c.is_any_on_day.ensures ∙ w.if-not-is_any_on_day.true)
        | else-not-is_any_on_day w ↦ subst (IsIdle c.args.entries.now) (sym w.idle-is) c.loop-minute.invariant.1
      ],
    )

pub returns-then-matches : goal.returns-then-matches
returns-then-matches c =
    one-found _ c.args.entries.now c.args.minutes.now c.loop-minute.minute-index c.loop-minute-test.true (sym c.matches.ensures ∙ c.if-matches.true)

pub returns : goal.returns
returns c =
    sym (ap (list_any (λ minute. list_any (λ entry. matches entry minute) c.args.entries.now)) (sym (take_all c.loop-minute.minute-index c.args.minutes.now c.loop-minute-test.false))
    ∙ c.loop-minute.invariant.0)
