-- What follows the facts keeps the past.
use Rattle.std.proofs.Common.{not, ◌≤◌, ◌≡◌, Bool, true, false, Option, Some, None, ◌∷◌, refl, sym, ap, ◌∙◌}
use Rattle.std.specs.Prelude.{Result, Ok, Err, OnOk}
use Rattle.history_model.specs.declared.Reading.{Reading}
use Rattle.history_model.specs.declared.Act.{Act}
use Rattle.history_model.specs.declared.Refusal.{Refusal}
use Rattle.history_model.specs.Items.{Item, Loaded, Read, Saw, Asked, Came, Left, Ordered, Answered, RunEnded, WaitRefused, History}
use Rattle.history_model.specs.Clock.{now, present_after}
use Rattle.history_model.specs.declared.TheConstants.{MAX_UP}
use Rattle.history_model.specs.declared.Refusal.TheVariants.{ClockRefused}
use Rattle.history_model.specs.Due.{due}
use Rattle.history_model.specs.Refusals.{is_clock_refused, refusal_of, IsLawful, IsBehindLoad, MayFollow}
use Rattle.history_model.specs.Facts.{Facts}
use Rattle.history_model.specs.ByFacts.{facts_after, facts_after_order, Follows}
use Rattle.history_model.specs.DueByFacts.{refusal_by, due_by}
use Rattle.history_model.proofs.LawfulLemmas.{unless-None}
use Rattle.history_model.proofs.ClockLemmas.{Read-later}
use Rattle.history_model.proofs.ByFactsLemmas.{refusal-by, due-by, facts-after}
use Rattle.history_model.specs.FactsOfPast.{Keeps, reply, ordered}
use Rattle.history_model.proofs.BooleanLemmas.{not-true}

-- the items that come from outside
abbrev pub is_event : Item → Bool
is_event (Loaded d at) = false
is_event (Ordered act) = false
is_event _ = true

pub event_follows : (x : Item) (past : History) → is_event x ≡ true → IsBehindLoad past → refusal_of x past ≡ None → MayFollow x past
event_follows (Read at calendar) past e loaded accepted = (loaded, accepted)
event_follows (Asked ask) past e loaded accepted = (loaded, accepted)
event_follows (Answered answer) past e loaded accepted = (loaded, accepted)
event_follows (RunEnded run how) past e loaded accepted = (loaded, accepted)
event_follows (WaitRefused run) past e loaded accepted = (loaded, accepted)
event_follows (Loaded d at) past e loaded accepted = cc
event_follows (Ordered act) past e loaded accepted = cc
event_follows (Saw path obs) past e loaded accepted = (loaded, accepted)
event_follows (Came conn) past e loaded accepted = (loaded, accepted)
event_follows (Left conn) past e loaded accepted = (loaded, accepted)

-- the refusal is that of the past
pub refused : (old new : Facts) (x : Item) (at : Reading) (result : Result (Unit {0}) Refusal) → Follows old x at result new →
    (past : History) → Keeps old past → at ≡ now past → result ≡ reply (refusal_of x past)
refused old new x at result follows past keeps present =
    follows.refused ∙ ap reply ((λ i. refusal_by x (present i) (keeps.same i)) ∙ sym (refusal-by x past))

reply-None : (o : Option Refusal) → Ok tt ≡ reply o → o ≡ None
reply-None None e = refl
reply-None (Some r) e = cc

-- and the past goes on by the item if it is accepted
pub kept : (old new : Facts) (x : Item) (at : Reading) (result : Result (Unit {0}) Refusal) → is_event x ≡ true → Follows old x at result new →
    (past : History) → Keeps old past → at ≡ now past → OnOk result (Keeps new (x ∷ past))
kept old new x at (Err e) event follows past keeps present = tt
kept old new x at (Ok u) event follows past keeps present =
    let accepted = reply-None (refusal_of x past) (refused old new x at (Ok u) follows past keeps present) in
    let lawful : IsLawful (x ∷ past) = (event_follows x past event keeps.loaded accepted, keeps.lawful) in
    record {
      lawful = lawful;
      loaded = tt;
      same = follows.taken ∙ (λ i. facts_after x (present i).up (keeps.same i)) ∙ sym (facts-after x past lawful keeps.loaded);
    }

-- the order is that which the past wants
pub decides : (old : Facts) (at : Reading) (result : Option Act) → result ≡ due_by old at.up →
    (past : History) → Keeps old past → at ≡ now past → result ≡ due past
decides old at result is past keeps present =
    is ∙ (λ i. due_by (keeps.same i) (present i).up) ∙ sym (due-by past keeps.lawful)

-- and the past goes on by it
pub goes_on : (old new : Facts) (at : Reading) (result : Option Act) → result ≡ due_by old at.up → new ≡ facts_after_order result at.up old →
    (past : History) → Keeps old past → at ≡ now past → Keeps new (ordered result past)
goes_on old new at None is step past keeps present = record { lawful = keeps.lawful; loaded = keeps.loaded; same = step ∙ keeps.same }
goes_on old new at (Some act) is step past keeps present =
    let order : due past ≡ Some act = sym (decides old at (Some act) is past keeps present) in
    let lawful : IsLawful (Ordered act ∷ past) = ((keeps.loaded, order), keeps.lawful) in
    record {
      lawful = lawful;
      loaded = tt;
      same = step ∙ (λ i. facts_after (Ordered act) (present i).up (keeps.same i)) ∙ sym (facts-after (Ordered act) past lawful keeps.loaded);
    }

-- an accepted reading is in range
pub in_range : (old new : Facts) (x : Item) (at : Reading) (result : Result (Unit {0}) Refusal) → is_event x ≡ true → Follows old x at result new →
    at.up ≤ MAX_UP → OnOk result ((present_after x at).up ≤ MAX_UP)
in_range old new x at (Err e) event follows before = tt
in_range old new (Read later calendar) at (Ok u) event follows before =
    let accepted = unless-None (not (is_clock_refused at later)) ClockRefused (reply-None (refusal_by (Read later calendar) at old) follows.refused) in
    (Read-later at later (not-true (is_clock_refused at later) accepted)).1
in_range old new (Loaded d later) at (Ok u) event follows before = cc
in_range old new _ at (Ok u) event follows before = before
