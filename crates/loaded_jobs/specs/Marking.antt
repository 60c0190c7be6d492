-- Marks for the jobs whose moment is reached. Places lie by job number.
use Rattle.std.specs.Prelude.{◌≡◌, ◌⊎◌, ℕ, ◌≤◌, ◌<◌, List, length, Some, None, slice_get, true, Bool, ◌||◌}
use Rattle.place_set.specs.Places.{Places, has_place, place_room}
use Rattle.timer_heap.specs.Timers.{Timers, moment_in}
use Rattle.history_model.specs.declared.CivilMinute.{CivilMinute}
use Rattle.loaded_jobs.specs.Index.{is_minute_among, place_in}
use Rattle.loaded_jobs.specs.declared.job_slot.JobSlot.{JobSlot}
use Rattle.std.specs.List.{list_any, filter}
use Rattle.loaded_jobs.specs.Triggers.{has_rank, is_placed_at}
use Rattle.loaded_jobs.specs.declared.trigger.Listed.{Listed}
use Rattle.history_model.specs.LaterMoments.{IsLater}

-- each job with a moment has a place, and a place has room for its mark
abbrev pub HavePlaces : Timers → List ℕ → Places → Type 0
HavePlaces timers places ready =
    (number moment : ℕ) → moment_in timers number ≡ Some moment → (number < length places)
    × (place_in places number < place_room ready)

-- the job's moment is later and still there, or its place has a mark and the moment is taken
abbrev pub IsMarked : ℕ → Timers → Timers → List ℕ → Places → ℕ → Type 0
IsMarked up old new places ready number =
    (IsLater up (moment_in old number) × (moment_in new number ≡ moment_in old number))
    ⊎ ((has_place ready (place_in places number) ≡ true) × (moment_in new number ≡ None))

-- the place is that of a job whose moment is reached
abbrev pub IsReachedAt : ℕ → Timers → List ℕ → ℕ → Type 0
IsReachedAt up timers places place =
    (number : ℕ) × (moment : ℕ) × (place_in places number ≡ place)
    × (moment_in timers number ≡ Some moment) × (moment ≤ up)

-- the place is that of a job with a calendar entry whose minute is among these
abbrev pub IsMinuteAt : List JobSlot → List CivilMinute → ℕ → Type 0
IsMinuteAt es minutes place =
    (job_slot : JobSlot) × (slice_get es place ≡ Some job_slot)
    × (is_minute_among job_slot.def.calendar minutes ≡ true)

-- each listed job has a place, and a place has room for its mark
abbrev pub HaveMarks : List Listed → List ℕ → Places → Type 0
HaveMarks listed places ready =
    (k : ℕ) (one : Listed) → slice_get listed k ≡ Some one → (one.number < length places)
    × (place_in places one.number < place_room ready)

-- a listed job with this rank is at the place
abbrev pub stands_at : List Listed → List ℕ → List ℕ → ℕ → Bool
stands_at listed places rank place =
    list_any (is_placed_at places place) (filter (has_rank rank) listed)

-- the places that pass have a mark, and each other one is as it was
pub record Marks (old new : Places) (passes : ℕ → Bool) : Type 0 where
  pub places : (place : ℕ) → has_place new place ≡ (has_place old place || passes place)
  pub room : place_room new ≡ place_room old
