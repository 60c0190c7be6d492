-- What an event needs of the table to ask the jobs that it reaches, and what it leaves.
use Rattle.std.specs.Prelude.{◌≡◌, ℕ, Bool, List, [], Option, map}
use Rattle.std.specs.List.{filter_map, flat_map}
use Rattle.history_model.specs.Items.{Item}
use Rattle.history_model.specs.Machine.{Job}
use Rattle.history_model.specs.Step.{received, stays, orders_of}
use Rattle.history_model.specs.Described.{Described}
use Rattle.loaded_jobs.specs.StandsFor.{KeepsJobs, labelled}
use Rattle.loaded_jobs.specs.Alike.{IsAlike}
use Rattle.loaded_jobs.specs.Counts.{counts, IsCounted}
use Rattle.loaded_jobs.specs.Receiving.{AreFor, IsAccepted}
use Rattle.loaded_jobs.specs.Index.{ArePlaced}
use Rattle.loaded_jobs.specs.Room.{HasSameRoom}
use Rattle.loaded_jobs.specs.JobSlots.{rows, gone, name, AllStay}
use Rattle.loaded_jobs.specs.Sound.{seen_table, IsSound, IsWhole}
use Rattle.loaded_jobs.specs.Touched.{AreTimedBut, RestBut, SparesBut}
use Rattle.loaded_jobs.specs.declared.jobs.Jobs.{Jobs}

-- no job is gone and no order is given yet; each number has its place, and its next moment if its job
-- is not reached
pub record CanAsk (reached : ℕ → Described → Bool) (t : Jobs) : Type 0 where
  pub sound : IsSound t
  pub stay : AllStay t.job_slots.items
  pub empty : t.orders.items ≡ []
  pub placed : ArePlaced t.index.places.items t.job_slots.items
  pub timed : AreTimedBut reached t

-- every job has its item, the orders are those of all jobs, and the jobs that are reached were visited
-- alone; the names stay, and the table is whole
pub record AsksReached (receives : Described → Option Item) (reached : ℕ → Described → Bool)
    (old new : Jobs) : Type 0 where
  pub kept : (jobs : List Job) (item : Job → Option Item) →
      AreFor receives item (rows old.job_slots.items) jobs → IsAccepted old.reading item →
      RestBut reached 0 (rows old.job_slots.items) jobs →
      KeepsJobs old.reading (rows old.job_slots.items) jobs →
      KeepsJobs old.reading (rows new.job_slots.items) (filter_map stays (received item jobs))
  pub orders : (jobs : List Job) (item : Job → Option Item) →
      AreFor receives item (rows old.job_slots.items) jobs → IsAccepted old.reading item →
      RestBut reached 0 (rows old.job_slots.items) jobs →
      KeepsJobs old.reading (rows old.job_slots.items) jobs →
      labelled (map name new.job_slots.items) new.orders.items ≡ flat_map orders_of (received item jobs)
  pub names : map name new.job_slots.items ≡ map name old.job_slots.items
  pub counted : IsCounted (counts (rows old.job_slots.items)) (rows new.job_slots.items)
      (gone new.job_slots.items) new.visited
  pub spared : SparesBut reached old.job_slots.items new.job_slots.items
  pub triggers : new.triggers ≡ old.triggers
  pub whole : IsWhole new
  pub alike : IsAlike old new
  pub room : HasSameRoom (seen_table old) (seen_table new)
