-- The number that is found is the least after which a clock reading makes the spawn due.
use Rattle.std.proofs.Common.{◌+◌, ◌*◌, ◌≤◌, not, ◌&&◌, ◌||◌, unwrap_or, nat_le, sym, subst, ◌∙◌}
use Rattle.std.specs.Prelude.{IfSome}
use Rattle.history_model.specs.declared.TheConstants.{SECOND}
use Rattle.history_model.specs.Calendar.{calendar_fires}
use Rattle.history_model.specs.NextMomentByFacts.{has_come}
use Rattle.history_model.specs.Reasons.{needs_event}
use Rattle.history_model.specs.NextRun.{looked_ahead}
use Rattle.calendar_due.specs.ZoneRules.{minute_at}
use Rattle.run_times.proofs.NextRunLemmas.{spawns-after, least-run}
use Rattle.run_times.proofs.next.next_run.Goals as goal

pub returns-clause-from : goal.returns-clause-from
returns-clause-from c = λ past told d within.
    let zone = minute_at c.args.zone.now in
    let near : d ≤ c.looked_ahead-ahead.result = subst (λ n. d ≤ n) (sym c.looked_ahead-ahead.ensures.value) within in
    spawns-after zone past told.period d
    ∙ (λ i. has_come (sym told.moment i) ((sym told.present i).up + SECOND * d)
    || (not (needs_event (sym told.reasons_are i)) && calendar_fires zone (sym told.calendar i) (sym told.present i).wall ((sym told.present i).wall + d)
    && nat_le (unwrap_or (sym told.reasons_are i).throttled_until 0) ((sym told.present i).up + SECOND * d)))
    ∙ sym (c.first_second-found.ensures d near)
    ∙ sym (c.at_most.ensures.from d near)

pub returns-clause-least : goal.returns-clause-least
returns-clause-least c = λ past told.
    least-run (minute_at c.args.zone.now) past (looked_ahead c.args.now c.args.within) c.at_most.result
    (subst (λ n. IfSome c.at_most.result (λ d. d ≤ n)) c.looked_ahead-ahead.ensures.value c.at_most.ensures.bound)
    (returns-clause-from c past told)
