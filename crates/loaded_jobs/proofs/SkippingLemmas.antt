-- A clock reading that reaches no moment of a job: the same facts keep its past with the clock reading, and nothing new is due.
use Rattle.std.proofs.Common.{◌≡◌, ◌≤◌, false, None, ◌∷◌, sym, ap, ◌∙◌, subst}
use Rattle.history_model.specs.declared.Reading.{Reading}
use Rattle.history_model.specs.Items.{Read, History}
use Rattle.history_model.specs.Clock.{now}
use Rattle.history_model.specs.Due.{due}
use Rattle.history_model.specs.Refusals.{refusal_of, IsLawful}
use Rattle.history_model.specs.Facts.{Facts}
use Rattle.history_model.specs.FactsOfPast.{Keeps}
use Rattle.history_model.specs.NextMomentByFacts.{next_by}
use Rattle.history_model.specs.LaterMoments.{IsLater}
use Rattle.history_model.proofs.ComingLemmas.{next-by}
use Rattle.history_model.proofs.SkippingLemmas.{keeps-still, due-kept}

module _ (f : Facts) (past : History) (at : Reading) (keeps : Keeps f past) (order : (now past).up ≤ at.up) (accepted : refusal_of (Read at false) past ≡ None)
    (later : IsLater at.up (next_by f (now past).up)) where
  lawful : IsLawful (Read at false ∷ past)
  lawful = ((keeps.loaded, accepted), keeps.lawful)

  pub skipped : Keeps f (Read at false ∷ past)
  skipped = keeps-still at past lawful f keeps (λ moment is. subst (IsLater at.up) is later)

  pub skipped-due : due (Read at false ∷ past) ≡ due past
  skipped-due = due-kept at past lawful (λ moment is. subst (IsLater at.up) (ap (λ g. next_by g (now past).up) keeps.same ∙ sym (next-by past keeps.lawful) ∙ is) later)
