-- The goals of `Calendar::fires` that the prover leaves open.
use Rattle.std.proofs.Common.{◌≡◌, ◌∙◌, length, sym, ap, not}
use Rattle.std.proofs.lemmas.Bool.Decides.{Decides-eqb}
use Rattle.calendar_due.proofs.CalendarLemmas.{nothing_matches, found-calendar_fires}
use Rattle.calendar_due.proofs.calendar.Calendar.fires.Goals as goal

pub returns-then-not-is_empty-clause-fires : goal.returns-then-not-is_empty-clause-fires
returns-then-not-is_empty-clause-fires c = λ zone previous now minutes.
    found-calendar_fires zone c.args.entries.now previous now c.args.minutes.now c.is_any_matched.result minutes c.is_any_matched.ensures

pub returns-else-not-is_empty-clause-any : goal.returns-else-not-is_empty-clause-any
returns-else-not-is_empty-clause-any c =
    let none : length c.args.entries.now ≡ 0 = (Decides-eqb (length c.args.entries.now) 0).0 (sym c.is_empty.ensures ∙ c.if-not-is_empty.false) in
    ap not c.if-not-is_empty.false ∙ sym (nothing_matches c.args.entries.now c.args.minutes.now none)

pub returns-else-not-is_empty-clause-fires : goal.returns-else-not-is_empty-clause-fires
returns-else-not-is_empty-clause-fires c = λ zone previous now minutes.
    found-calendar_fires zone c.args.entries.now previous now c.args.minutes.now (not c.is_empty.result) minutes (returns-else-not-is_empty-clause-any c)
