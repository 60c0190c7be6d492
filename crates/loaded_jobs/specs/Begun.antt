-- What the beginning of an event leaves.
use Rattle.std.specs.Prelude.{◌≡◌, [], map}
use Rattle.loaded_jobs.specs.Alike.{IsAlike}
use Rattle.loaded_jobs.specs.Numbers.{row_names}
use Rattle.loaded_jobs.specs.Room.{HasSameRoom}
use Rattle.loaded_jobs.specs.JobSlots.{rows, name, AllStay}
use Rattle.loaded_jobs.specs.Sound.{seen_table, IsWhole}
use Rattle.loaded_jobs.specs.declared.jobs.Jobs.{Jobs}

-- the table is whole, no job is gone, and no order is given yet
pub record IsBegun (t : Jobs) : Type 0 where
  pub whole : IsWhole t
  pub stay : AllStay t.job_slots.items
  pub empty : t.orders.items ≡ []

-- The jobs that went at the last event are dropped, and its orders. No loaded job has changed, and the
-- names are those of the loaded jobs
pub record HasBegun (old new : Jobs) : Type 0 where
  pub begun : IsBegun new
  pub names : map name new.job_slots.items ≡ row_names (rows old.job_slots.items)
  pub rows : rows new.job_slots.items ≡ rows old.job_slots.items
  pub alike : IsAlike old new
  pub room : HasSameRoom (seen_table old) (seen_table new)
