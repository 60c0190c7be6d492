-- What every job hears.
use Rattle.std.specs.Prelude.{◌≡◌, List, [], ◌∷◌, Option, Some, None}
use Rattle.history_model.specs.declared.Reading.{Reading}
use Rattle.history_model.specs.declared.Refusal.{Refusal}
use Rattle.history_model.specs.Items.{Item, History}
use Rattle.history_model.specs.Clock.{now, definition_of}
use Rattle.history_model.specs.Refusals.{refusal_of}
use Rattle.history_model.specs.FactsOfPast.{Keeps}
use Rattle.history_model.specs.Machine.{Job}
use Rattle.history_model.specs.Described.{Described}
use Rattle.loaded_jobs.specs.Tables.{Row}
use Rattle.loaded_jobs.specs.JobSlots.{name}
use Rattle.loaded_jobs.specs.declared.job_slot.JobSlot.{JobSlot}

-- the past with the item, if there is one
abbrev pub followed : Option Item → History → History
followed None past = past
followed (Some item) past = item ∷ past

abbrev pub refusal_if : Option Item → History → Option Refusal
refusal_if None past = None
refusal_if (Some item) past = refusal_of item past

-- a slot once its core has seen the item
pub record IsReceived (at : Reading) (item : Option Item) (e new : JobSlot) : Type 0 where
  pub name : name new ≡ name e
  pub going : new.has_gone ≡ e.has_gone
  pub decided : new.core.decided ≡ e.core.decided
  pub kept : (past : History) → Keeps e.core.facts past → at ≡ now past →
      refusal_if item past ≡ None → Keeps new.core.facts (followed item past)

-- what a job hears goes by its definition
abbrev pub AreReceived : Reading → (Described → Option Item) → List JobSlot → List JobSlot → Type 0
AreReceived at receives [] [] = Unit {0}
AreReceived at receives [] (new ∷ rest) = ⊥
AreReceived at receives (e ∷ es) [] = ⊥
AreReceived at receives (e ∷ es) (new ∷ rest) =
    IsReceived at (receives e.def) e new × AreReceived at receives es rest

-- what each job hears is its item
abbrev pub AreFor : (Described → Option Item) → (Job → Option Item) → List Row → List Job → Type 0
AreFor receives item [] jobs = Unit {0}
AreFor receives item (row ∷ rows) [] = Unit {0}
AreFor receives item (row ∷ rows) (job ∷ jobs) =
    (receives row.described ≡ item job) × AreFor receives item rows jobs

-- no job refuses its item
abbrev pub IsAccepted : Reading → (Job → Option Item) → Type 0
IsAccepted at item = (job : Job) → at ≡ now job.past → refusal_if (item job) job.past ≡ None

-- what is received brings each job from the clock reading before to this one, and leaves its definition
pub record Brings (receives : Described → Option Item) (before at : Reading) : Type 0 where
  pub present : (d : Described) (past : History) → before ≡ now past →
      at ≡ now (followed (receives d) past)
  pub definition : (d : Described) (past : History) →
      definition_of past ≡ definition_of (followed (receives d) past)
