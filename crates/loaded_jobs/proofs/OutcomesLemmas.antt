-- From the parts of an event to the machine's step.
use Rattle.std.proofs.Common.{◌≡◌, ℕ, ◌≤◌, List, [], ◌∷◌, Option, Some, None, refl, sym, ap, ◌∙◌, subst}
use Rattle.std.specs.Prelude.{Result, Ok, Err, OnOk, OnErr}
use Rattle.std.specs.List.{filter, AllByRecursion}
use Rattle.history_model.specs.Search.{first}
use Rattle.history_model.specs.declared.Reading.{Reading}
use Rattle.history_model.specs.declared.Refusal.{Refusal}
use Rattle.history_model.specs.declared.TheConstants.{MAX_UP}
use Rattle.history_model.specs.FactsOfPast.{reply}
use Rattle.history_model.specs.Machine.{State, Job, Event, sets}
use Rattle.history_model.specs.Acceptance.{refusal_in}
use Rattle.history_model.specs.Step.{Outcome, taken, with_orders, step_by, step, outcome_by, outcome, refused}
use Rattle.history_model.specs.Texts.{text_after}
use Rattle.history_model.proofs.StepLemmas.{Rests, IsGood, good-step, all-implied}
use Rattle.calendar_due.specs.ZoneRules.{minute_at}
use Rattle.loaded_jobs.specs.Tables.{Row, Table}
use Rattle.loaded_jobs.specs.StandsFor.{KeepsJobs, KeepsState, IsAtRest, acts_in}
use Rattle.loaded_jobs.specs.TableOutcomes.{plain_outcome, IsOrderedFrom, IsSameFor}

pub resting : (at : Reading) (rows : List Row) (jobs : List Job) → KeepsJobs at rows jobs → AllByRecursion IsAtRest jobs → AllByRecursion (Rests at) jobs
resting at [] [] keeps rests = tt
resting at [] (job ∷ jobs) keeps rests = absurd keeps
resting at (row ∷ rows) [] keeps rests = absurd keeps
resting at (row ∷ rows) (job ∷ jobs) keeps rests = (
  record {
    stands = record { lawful = keeps.0.keeps.lawful; loaded = keeps.0.keeps.loaded; present = sym keeps.0.present };
    idle = rests.0.0;
    staying = rests.0.1;
  },
  resting at rows jobs keeps.1 rests.1,
)

-- a state that a table keeps is one that rests
pub good : (table : Table) (s : State) → table.reading.up ≤ MAX_UP → KeepsState table s → IsGood s
good table s range keeps = record { range = subst (λ at. at.up ≤ MAX_UP) keeps.reading range; rests = resting s.reading table.rows s.jobs keeps.jobs keeps.rests }

pub record IsDone (s : State) (e : Event) (new : Table) (wanted : Outcome) : Type 0 where
  pub outcome : outcome s e ≡ wanted
  pub kept : KeepsState new (step s e)

pub accepted : (old new : Table) (s : State) (e : Event) (text : List ℕ) → old.reading.up ≤ MAX_UP → KeepsState old s → refusal_in s e ≡ None →
    IsOrderedFrom new (taken s e) → text_after e (with_orders (taken s e)) ≡ text → IsDone s e new (record { refusal = None; orders = acts_in new; text = text })
accepted old new s e text range keeps none is said =
    let rests = (good-step s e (good old s range keeps)).rests in
    let next : step s e ≡ with_orders (taken s e) = ap (λ o. step_by o s e) none in
    let kept : KeepsState new (with_orders (taken s e)) = record {
      reading = is.reading;
      zone = is.zone;
      settings = is.settings;
      shutdown = is.shutdown;
      jobs = is.jobs;
      rests = all-implied (Rests (with_orders (taken s e)).reading) IsAtRest (λ job r. (r.idle, r.staying)) (with_orders (taken s e)).jobs
          (subst (λ t. AllByRecursion (Rests t.reading) t.jobs) next rests);
    } in
    record {
      outcome = ap (λ o. outcome_by o s e) none ∙ (λ i. record { refusal = None; orders = sym is.orders i; text = said i });
      kept = subst (KeepsState new) (sym next) kept;
    }

pub refuses : (old new : Table) (s : State) (e : Event) (r : Refusal) → KeepsState old s → refusal_in s e ≡ Some r → IsSameFor old new → IsDone s e new (refused r)
refuses old new s e r keeps is same = record {
  outcome = ap (λ o. outcome_by o s e) is;
  kept = subst (KeepsState new) (sym (ap (λ o. step_by o s e) is)) (same s keeps);
}

-- the refusal is the answer, or there is none
pub decides : (old new : Table) (s : State) (e : Event) (result : Result (Unit {0}) Refusal) → old.reading.up ≤ MAX_UP → KeepsState old s →
    result ≡ reply (refusal_in s e) → OnOk result (refusal_in s e ≡ None → IsOrderedFrom new (taken s e)) → OnErr result (IsSameFor old new) →
    text_after e (with_orders (taken s e)) ≡ [] → IsDone s e new (plain_outcome result new)
decides old new s e result range keeps answer asks same said = go result (refusal_in s e) refl answer asks same
  where
    go : (result : Result (Unit {0}) Refusal) (o : Option Refusal) → refusal_in s e ≡ o → result ≡ reply o →
        OnOk result (refusal_in s e ≡ None → IsOrderedFrom new (taken s e)) → OnErr result (IsSameFor old new) → IsDone s e new (plain_outcome result new)
    go (Ok u) None is answer asks same = accepted old new s e [] range keeps is (asks is) said
    go (Ok u) (Some r) is answer asks same = cc
    go (Err q) None is answer asks same = cc
    go (Err q) (Some r) is answer asks same = let named : q ≡ r = cc in subst (λ v. IsDone s e new (refused v)) (sym named) (refuses old new s e r keeps is same)

-- a table with the same rows stands for the same states
pub same-for : (old new : Table) → new.reading ≡ old.reading → new.zone ≡ old.zone → new.settings ≡ old.settings → new.is_shutting_down ≡ old.is_shutting_down →
    new.rows ≡ old.rows → IsSameFor old new
same-for old new reading zone settings shutdown rows = λ s keeps. record {
  reading = reading ∙ keeps.reading;
  zone = ap minute_at zone ∙ keeps.zone;
  settings = λ label. ap (λ held. first (filter (sets label) held)) settings ∙ keeps.settings label;
  shutdown = shutdown ∙ keeps.shutdown;
  jobs = subst (λ rs. KeepsJobs s.reading rs s.jobs) (sym rows) keeps.jobs;
  rests = keeps.rests;
}
