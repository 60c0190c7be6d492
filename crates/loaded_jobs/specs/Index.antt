-- The index of moments: what holds of it and the slots.
use Rattle.std.specs.Prelude.{◌≡◌, ℕ, ◌<◌, ◌≤◌, ◌+◌, ◌-◌, ◌%◌, ◌^◌, nat_lt, if◌then◌else◌, Bool, true, cond, List, length, map, Option, Some, None, is_some, slice_get, slice_index_or}
use Rattle.place_set.specs.Places.{has_place, place_room}
use Rattle.timer_heap.specs.Timers.{Timers, moment_in, room}
use Rattle.history_model.specs.NextMomentByFacts.{next_by}
use Rattle.loaded_jobs.specs.Tables.{Name, definition_of_number}
use Rattle.std.specs.Prelude.{false}
use Rattle.std.specs.List.{list_any}
use Rattle.history_model.specs.declared.Reading.{Reading}
use Rattle.history_model.specs.declared.CivilMinute.{CivilMinute}
use Rattle.history_model.specs.declared.Entry.{Entry}
use Rattle.history_model.specs.Calendar.{allows}
use Rattle.history_model.specs.LaterMoments.{IsLater}
use Rattle.loaded_jobs.specs.JobSlots.{name}
use Rattle.loaded_jobs.specs.declared.job_slot.JobSlot.{JobSlot}
use Rattle.loaded_jobs.specs.declared.jobs.Jobs.{Jobs}
use Rattle.loaded_jobs.specs.declared.jobs.Index.{Index}

-- the moment that the job's number is to have: none if the job is gone
abbrev pub moment_for : JobSlot → ℕ → Option ℕ
moment_for e up = cond e.has_gone None (next_by e.core.facts up)

-- each job's number has its moment
abbrev pub AreTimed : Timers → ℕ → List JobSlot → Type 0
AreTimed timers up es =
    (k : ℕ) (e : JobSlot) → slice_get es k ≡ Some e → moment_in timers e.number ≡ moment_for e up

-- each number that has a moment is a job's
abbrev pub AreAlone : Timers → List Name → Type 0
AreAlone timers names =
    (number moment : ℕ) → moment_in timers number ≡ Some moment →
    is_some (definition_of_number names number) ≡ true

-- there is room for each job's moment
abbrev pub HaveRoom : Timers → List Name → Type 0
HaveRoom timers names =
    (number : ℕ) → is_some (definition_of_number names number) ≡ true → number < room timers

abbrev pub place_in : List ℕ → ℕ → ℕ
place_in places number = slice_index_or places number 0

-- a place once the slot at one place has left: those after it move one to the front
abbrev pub lowered : ℕ → ℕ → ℕ
lowered gone place = if nat_lt gone place then place - 1 else place

-- a place, a number of 16 bits, once a slot has come at one place: those from there on move one to the back
abbrev pub raised : ℕ → ℕ → ℕ
raised new place = if nat_lt place new then place else (place + 1) % 2 ^ 16

-- each job's number has its place
abbrev pub ArePlaced : List ℕ → List JobSlot → Type 0
ArePlaced places es =
    (k : ℕ) (e : JobSlot) → slice_get es k ≡ Some e → (e.number < length places)
    × (place_in places e.number ≡ k)

-- what of the index goes by names alone
pub record IsNamed (index : Index) (names : List Name) : Type 0 where
  pub alone : AreAlone index.timers names
  pub space : HaveRoom index.timers names
  pub fits : (number : ℕ) → is_some (definition_of_number names number) ≡ true →
      number < length index.places.items
  pub empty : (place : ℕ) → has_place index.marked place ≡ false
  pub marks : length names ≤ place_room index.marked

-- the index is that of these slots, at this moment, and has no mark
pub record IsIndexOf (index : Index) (up : ℕ) (es : List JobSlot) : Type 0 where
  pub timed : AreTimed index.timers up es
  pub alone : AreAlone index.timers (map name es)
  pub space : HaveRoom index.timers (map name es)
  pub placed : ArePlaced index.places.items es
  pub empty : (place : ℕ) → has_place index.marked place ≡ false
  pub marks : length es ≤ place_room index.marked

-- the index of the slots, as each event finds and leaves it
abbrev pub IsIndexed : Jobs → Type 0
IsIndexed t = IsIndexOf t.index t.reading.up t.job_slots.items

-- some entry has no Minute, or that of one of these minutes
abbrev pub is_minute_among : List Entry → List CivilMinute → Bool
is_minute_among calendar minutes =
    list_any (λ minute. list_any (λ entry. allows entry.minute minute.minute) calendar) minutes

-- no moment of the job is reached, and none of its minutes is among these
pub record IsSpare (before at : Reading) (minutes : List CivilMinute) (e : JobSlot) : Type 0 where
  pub later : IsLater at.up (next_by e.core.facts before.up)
  pub apart : is_minute_among e.def.calendar minutes ≡ false
