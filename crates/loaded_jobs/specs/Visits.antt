-- What a walk over the jobs that an event touches is given, and what it leaves.
use Rattle.std.specs.Prelude.{◌≡◌, ◌≤◌, ◌<◌, ◌++◌, ℕ, Bool, true, false, List, Option, Some, map, length, slice_get}
use Rattle.std.specs.List.{filter_map, list_all}
use Rattle.place_set.specs.Places.{Places, has_place, place_room}
use Rattle.timer_heap.specs.Timers.{Timers, moment_in, room}
use Rattle.history_model.specs.declared.Order.{Order}
use Rattle.history_model.specs.declared.Reading.{Reading}
use Rattle.history_model.specs.declared.TheConstants.{MAX_JOBS, MAX_UP}
use Rattle.history_model.specs.Items.{Item}
use Rattle.history_model.specs.Machine.{Job}
use Rattle.history_model.specs.Step.{stays, received}
use Rattle.history_model.specs.Described.{Described}
use Rattle.loaded_jobs.specs.Tables.{Name, IsOnce, is_known}
use Rattle.loaded_jobs.specs.StandsFor.{KeepsJobs, numbered_all}
use Rattle.loaded_jobs.specs.JobSlots.{is_named, rows, name, AllStay}
use Rattle.loaded_jobs.specs.Index.{moment_for, AreTimed, AreAlone, HaveRoom}
use Rattle.loaded_jobs.specs.Leaving.{StayBut}
use Rattle.loaded_jobs.specs.Receiving.{AreFor, IsAccepted, Brings}
use Rattle.loaded_jobs.specs.Visiting.{AreSpared, AreAtRest, AreVisitedOnce, count_visited}
use Rattle.loaded_jobs.specs.declared.gone_jobs.Gone.{Gone}
use Rattle.loaded_jobs.specs.declared.job_slot.JobSlot.{JobSlot}

-- what is received brings this clock reading, no job is gone, each number and label is there once, and each place that is visited
-- is that of a job. A job that is passed by has its item though it did not receive it, and its next moment
pub record CanVisit (receives : Described → Option Item) (before at : Reading) (is_passed : ℕ → Bool)
    (job_slots : List JobSlot) (timers : Timers) : Type 0 where
  pub before_in_range : before.up ≤ MAX_UP
  pub in_range : at.up ≤ MAX_UP
  pub brings : Brings receives before at
  pub stay : AllStay job_slots
  pub few : length job_slots ≤ MAX_JOBS
  pub inside : (place : ℕ) → is_passed place ≡ false → place < length job_slots
  pub spared : AreSpared is_passed before receives 0 job_slots
  pub once : IsOnce (map name job_slots)
  pub numbers : HaveRoom timers (map name job_slots)
  pub timed : (place : ℕ) (job_slot : JobSlot) → slice_get job_slots place ≡ Some job_slot →
      is_passed place ≡ true → moment_in timers job_slot.number ≡ moment_for job_slot at.up
  pub alone : AreAlone timers (map name job_slots)

-- every job has its item, the orders are those of all jobs, and only the jobs that are not passed by were visited, each once. The
-- count says how many of them stayed, and those that went are known. Each order is of a job whose number is known, the names
-- stay, and each number has its next moment
pub record VisitsTouched (receives : Described → Option Item) (before at : Reading)
    (is_passed : ℕ → Bool)
    (job_slots later : List JobSlot) (earlier all : List Order) (timers : Timers) (count : ℕ)
    (gone : Gone) : Type 0 where
  pub kept : (jobs : List Job) (item : Job → Option Item) → AreFor receives item (rows job_slots) jobs →
      IsAccepted before item → AreAtRest is_passed 0 (received item jobs) →
      KeepsJobs before (rows job_slots) jobs →
      KeepsJobs at (rows later) (filter_map stays (received item jobs))
  pub orders : (jobs : List Job) (item : Job → Option Item) → AreFor receives item (rows job_slots) jobs →
      IsAccepted before item → AreAtRest is_passed 0 (received item jobs) →
      KeepsJobs before (rows job_slots) jobs →
      all ≡ earlier ++ numbered_all (rows job_slots) (received item jobs)
  pub visited : count ≡ count_visited is_passed 0 later
  pub stay : StayBut gone later
  pub visits : AreVisitedOnce is_passed 0 job_slots later
  pub known : (names : List Name) → list_all (is_named names) job_slots ≡ true →
      list_all (is_known names) earlier ≡ true → list_all (is_known names) all ≡ true
  pub names : map name later ≡ map name job_slots
  pub timed : AreTimed timers at.up later
  pub alone : AreAlone timers (map name job_slots)

-- no mark is left, and the room for marks and moments is what it was
pub record IsUnmarked (ready later : Places) (timers after : Timers) : Type 0 where
  pub done : (place : ℕ) → has_place later place ≡ false
  pub marks : place_room later ≡ place_room ready
  pub space : room after ≡ room timers
