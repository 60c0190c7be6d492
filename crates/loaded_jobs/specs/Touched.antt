-- The jobs that an event reaches, and the others.
use Rattle.std.specs.Prelude.{◌≡◌, ◌≢◌, ℕ, suc, ◌<◌, Bool, true, false, List, [], ◌∷◌, length, Some, slice_get}
use Rattle.std.specs.List.{position}
use Rattle.history_model.specs.Labels.{Label}
use Rattle.history_model.specs.Machine.{Job}
use Rattle.timer_heap.specs.Timers.{moment_in}
use Rattle.history_model.specs.Described.{Described}
use Rattle.loaded_jobs.specs.Tables.{Row}
use Rattle.loaded_jobs.specs.StandsFor.{IsAtRest}
use Rattle.loaded_jobs.specs.Counts.{counts, count_in}
use Rattle.loaded_jobs.specs.JobSlots.{rows, has_label}
use Rattle.loaded_jobs.specs.Index.{moment_for}
use Rattle.loaded_jobs.specs.declared.job_slot.JobSlot.{JobSlot}
use Rattle.loaded_jobs.specs.declared.jobs.Jobs.{Jobs}

-- each slot but the one at this place is as it was
pub record IsChangedAt (place : ℕ) (es later : List JobSlot) : Type 0 where
  pub inside : place < length later
  pub others : (k : ℕ) (e : JobSlot) → slice_get later k ≡ Some e → place ≢ k →
      slice_get es k ≡ Some e

-- the job at this place is the first with the label
pub record IsHandedAt (label : Label) (place : ℕ) (es later : List JobSlot) : Type 0 where
  pub at : Some place ≡ position (has_label label) es
  pub own : (e : JobSlot) → slice_get later place ≡ Some e → has_label label e ≡ true

-- each job that is not reached has its moment
abbrev pub AreTimedBut : (ℕ → Described → Bool) → Jobs → Type 0
AreTimedBut reached t =
    (k : ℕ) (e : JobSlot) → slice_get t.job_slots.items k ≡ Some e → reached k e.def ≡ false →
    moment_in t.index.timers e.number ≡ moment_for e t.reading.up

-- from this place on: the jobs that are not reached rest
abbrev pub RestBut : (ℕ → Described → Bool) → ℕ → List Row → List Job → Type 0
RestBut reached place [] jobs = Unit {0}
RestBut reached place (row ∷ rows) [] = Unit {0}
RestBut reached place (row ∷ rows) (job ∷ jobs) =
    (reached place row.described ≡ false → IsAtRest job)
    × RestBut reached (suc place) rows jobs

-- the count of a label stays if no job that has it is reached
abbrev pub SparesBut : (ℕ → Described → Bool) → List JobSlot → List JobSlot → Type 0
SparesBut reached es later =
    (label : Label) →
    ((place : ℕ) (e : JobSlot) → slice_get es place ≡ Some e → has_label label e ≡ true →
    reached place e.def ≡ false) →
    count_in (counts (rows later)) label ≡ count_in (counts (rows es)) label
