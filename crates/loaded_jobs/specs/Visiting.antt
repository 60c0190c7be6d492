-- A walk over the jobs: it visits those that an event touches, and passes each other one by.
use Rattle.std.specs.Prelude.{◌≡◌, ◌==◌, ℕ, suc, Bool, true, false, not, ◌||◌, cond, List, [], ◌∷◌, ◌++◌, Option, None}
use Rattle.std.specs.List.{filter_map}
use Rattle.place_set.specs.Places.{Places, has_place}
use Rattle.history_model.specs.declared.Reading.{Reading}
use Rattle.history_model.specs.declared.Order.{Order}
use Rattle.history_model.specs.Items.{Item, History}
use Rattle.history_model.specs.Clock.{now}
use Rattle.history_model.specs.Runs.{is_gone}
use Rattle.history_model.specs.Due.{due}
use Rattle.history_model.specs.FactsOfPast.{Keeps, ordered}
use Rattle.history_model.specs.Machine.{Job}
use Rattle.history_model.specs.Step.{acts_of, stays, received}
use Rattle.history_model.specs.Described.{Described}
use Rattle.loaded_jobs.specs.Tables.{Row}
use Rattle.loaded_jobs.specs.StandsFor.{KeepsJobs, IsAtRest, numbered_orders, numbered_all}
use Rattle.loaded_jobs.specs.Counts.{next_count}
use Rattle.loaded_jobs.specs.JobSlots.{name}
use Rattle.loaded_jobs.specs.Receiving.{followed, refusal_if, IsReceived, AreFor}
use Rattle.loaded_jobs.specs.declared.job_slot.JobSlot.{JobSlot}

-- the place has no mark
abbrev pub is_spared : Places → ℕ → Bool
is_spared ready place = not (has_place ready place)

-- the place is another one
abbrev pub is_other : ℕ → ℕ → Bool
is_other visited place = not (visited == place)

-- a slot that took in the item, if there is one, and then gave its order
pub record IsVisit (before at : Reading) (item : Option Item) (e new : JobSlot)
    (earlier later : List Order) : Type 0 where
  pub orders : (past : History) → Keeps e.core.facts past → before ≡ now past →
      refusal_if item past ≡ None → at ≡ now (followed item past) →
      later ≡ earlier ++ numbered_orders e.number (acts_of (followed item past))
  pub going : (past : History) → Keeps e.core.facts past → before ≡ now past →
      refusal_if item past ≡ None → at ≡ now (followed item past) →
      new.has_gone ≡ is_gone (followed item past)
  pub kept : (past : History) → Keeps e.core.facts past → before ≡ now past →
      refusal_if item past ≡ None → at ≡ now (followed item past) →
      is_gone (followed item past) ≡ false →
      Keeps new.core.facts (ordered (due (followed item past)) (followed item past))
  pub name : name new ≡ name e

-- from this place on: the jobs that are passed by have their item though they did not hear it
abbrev pub AreSpared : (ℕ → Bool) → Reading → (Described → Option Item) → ℕ → List JobSlot →
    Type 0
AreSpared is_passed before receives place [] = Unit {0}
AreSpared is_passed before receives place (e ∷ es) =
    (is_passed place ≡ true → IsReceived before (receives e.def) e e)
    × AreSpared is_passed before receives (suc place) es

-- from this place on: the jobs that are passed by rest
abbrev pub AreAtRest : (ℕ → Bool) → ℕ → List Job → Type 0
AreAtRest is_passed place [] = Unit {0}
AreAtRest is_passed place (job ∷ jobs) =
    (is_passed place ≡ true → IsAtRest job) × AreAtRest is_passed (suc place) jobs

-- the rows that were passed represent jobs at the new clock reading, those to come represent jobs that still lack their items.
-- What is still to do leads where the whole leads
pub record IsOnWay (before at : Reading) (receives : Described → Option Item)
    (item : Job → Option Item) (is_passed : ℕ → Bool) (place : ℕ) (done todo : List Row) (earlier all : List Order) (after : List Job) : Type 0 where
  pub past : List Job
  pub rest : List Job
  pub kept : KeepsJobs at done past
  pub waits : KeepsJobs before todo rest
  pub for : AreFor receives item todo rest
  pub rests : AreAtRest is_passed place (received item rest)
  pub leads : past ++ filter_map stays (received item rest) ≡ after
  pub gives : earlier ++ numbered_all todo (received item rest) ≡ all

-- each job that is not passed by was visited once more if it stays, and each other one is as it was
abbrev pub AreVisitedOnce : (ℕ → Bool) → ℕ → List JobSlot → List JobSlot → Type 0
AreVisitedOnce is_passed place [] [] = Unit {0}
AreVisitedOnce is_passed place [] (new ∷ rest) = ⊥
AreVisitedOnce is_passed place (e ∷ es) [] = ⊥
AreVisitedOnce is_passed place (e ∷ es) (new ∷ rest) =
    (name new ≡ name e)
    × (new.core.decided
    ≡ cond (new.has_gone || is_passed place) e.core.decided (next_count e.core.decided))
    × (is_passed place ≡ true → new ≡ e) × AreVisitedOnce is_passed (suc place) es rest

-- how many of them there are
abbrev pub count_visited : (ℕ → Bool) → ℕ → List JobSlot → ℕ
count_visited is_passed place [] = 0
count_visited is_passed place (e ∷ es) =
    cond (e.has_gone || is_passed place) (count_visited is_passed (suc place) es)
    (suc (count_visited is_passed (suc place) es))
