-- A clock reading before the next moment of a job: the same is known of it, it owes the same order, and its next moment stays.
use Rattle.std.proofs.Common.{◌≡◌, ◌≤◌, ◌<◌, ℕ, false, ◌||◌, cond, Option, None, Some, ◌∷◌, refl, sym, ap, ◌∙◌, subst}
use Rattle.std.specs.Option.{ForSome}
use Rattle.history_model.specs.declared.Reading.{Reading}
use Rattle.history_model.specs.Items.{Read, History}
use Rattle.history_model.specs.Clock.{now}
use Rattle.history_model.specs.Due.{due}
use Rattle.history_model.specs.Moments.{next_moment}
use Rattle.history_model.specs.Refusals.{IsLawful}
use Rattle.history_model.specs.Facts.{Facts, facts_of}
use Rattle.history_model.specs.DueByFacts.{due_by}
use Rattle.history_model.specs.declared.reasons.DemandKind.TheVariants as kinds
use Rattle.history_model.specs.ByFacts.{fired_by, facts_after}
use Rattle.history_model.specs.FactsOfPast.{Keeps}
use Rattle.history_model.specs.NextMomentByFacts.{next_by}
use Rattle.history_model.specs.Reasons.{reasons_of}
use Rattle.history_model.specs.ReasonsByFacts.{free_by, reasons_by}
use Rattle.history_model.specs.LaterMoments.{IsLater}
use Rattle.history_model.proofs.ByFactsLemmas.{due-by, facts-after}
use Rattle.history_model.proofs.ComingLemmas.{next-by}
use Rattle.history_model.proofs.ClockLemmas.{now-grows}
use Rattle.history_model.proofs.DueByFactsLemmas.{due-same, crosses-none, next-same, throttled-same}
use Rattle.history_model.proofs.ReasonsLemmas.{reasons-by}

later-for : (up : ℕ) (moment : Option ℕ) → ForSome moment (λ m. up < m) → IsLater up moment
later-for up None later = tt
later-for up (Some m) later = later m refl

-- the next moment by the facts, which need no past
pub next-kept : (f : Facts) (up at : ℕ) → up ≤ at → ForSome (next_by f up) (λ m. at < m) → next_by f at ≡ next_by f up
next-kept f up at order later = next-same up at order f (later-for at (next_by f up) later)

module _ (at : Reading) (t : History) (lawful : IsLawful (Read at false ∷ t)) where
  order : (now t).up ≤ at.up
  order = now-grows (Read at false) t lawful

  module _ (f : Facts) (same : f ≡ facts_of t) (later : IsLater at.up (next_by f (now t).up)) where
    -- no interval is crossed, so no demand comes
    by-facts : f ≡ facts_of (Read at false ∷ t)
    by-facts =
        sym (ap (λ crosses. fired_by (false || crosses) kinds.Interval f) (crosses-none (now t).up at.up order f later))
        ∙ ap (facts_after (Read at false) (now t).up) same ∙ sym (facts-after (Read at false) t lawful lawful.0.0)

  module _ (later : ForSome (next_moment t) (λ m. at.up < m)) where
    by_facts_later : IsLater at.up (next_by (facts_of t) (now t).up)
    by_facts_later = later-for at.up (next_by (facts_of t) (now t).up) (subst (λ o. ForSome o (λ m. at.up < m)) (next-by t lawful.1) later)

    pub facts-kept : facts_of (Read at false ∷ t) ≡ facts_of t
    facts-kept = sym (by-facts (facts_of t) refl by_facts_later)

    pub due-kept : due (Read at false ∷ t) ≡ due t
    due-kept =
        due-by (Read at false ∷ t) lawful ∙ ap (λ f. due_by f at.up) facts-kept
        ∙ due-same (now t).up at.up order (facts_of t) by_facts_later ∙ sym (due-by t lawful.1)

    pub moment-kept : next_moment (Read at false ∷ t) ≡ next_moment t
    moment-kept =
        next-by (Read at false ∷ t) lawful ∙ ap (λ f. next_by f at.up) facts-kept
        ∙ next-same (now t).up at.up order (facts_of t) by_facts_later ∙ sym (next-by t lawful.1)

    -- what keeps its spawn from being due stays too
    pub reasons-kept : reasons_of (Read at false ∷ t) ≡ reasons_of t
    reasons-kept =
        reasons-by (Read at false ∷ t) lawful ∙ ap (λ f. reasons_by f at.up) facts-kept
        ∙ (λ i. record (reasons_by (facts_of t) (now t).up) {
          throttled_until = cond (throttled-same (now t).up at.up order (facts_of t) by_facts_later i) (Some (free_by (facts_of t))) None;
        })
        ∙ sym (reasons-by t lawful.1)

  pub keeps-still : (f : Facts) → Keeps f t → ForSome (next_by f (now t).up) (λ m. at.up < m) → Keeps f (Read at false ∷ t)
  keeps-still f keeps later = record {
    lawful = lawful;
    loaded = tt;
    same = by-facts f keeps.same (later-for at.up (next_by f (now t).up) later);
  }
