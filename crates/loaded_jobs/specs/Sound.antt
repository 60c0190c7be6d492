-- What holds of the fields of every table.
use Rattle.std.specs.Prelude.{◌≡◌, ℕ, ◌*◌, ◌≤◌, map, length, true, Some, None, List, [], ◌∷◌}
use Rattle.std.specs.Vec.{vec_len, vec_capacity}
use Rattle.slab.specs.Slab.{Slab, get}
use Rattle.history_model.specs.declared.TheConstants.{MAX_JOBS, MAX_UP, MAX_WALL}
use Rattle.std.specs.List.{list_all}
use Rattle.history_model.specs.MachineLaws.{AreInOrder}
use Rattle.loaded_jobs.specs.Tables.{Table, Name, IsOnce, labels_in, definition_of_number, is_known}
use Rattle.loaded_jobs.specs.JobSlots.{name, rows, gone}
use Rattle.loaded_jobs.specs.Leaving.{StayBut}
use Rattle.loaded_jobs.specs.Index.{IsNamed, IsIndexed}
use Rattle.loaded_jobs.specs.Minutes.{some_calendar}
use Rattle.loaded_jobs.specs.Periods.{HavePeriods}
use Rattle.loaded_jobs.specs.Triggers.{AreListed}
use Rattle.place_set.specs.Places.{place_room}
use Rattle.timer_heap.specs.Timers.{room as room_of}
use Rattle.loaded_jobs.specs.declared.job_slot.JobSlot.{JobSlot}
use Rattle.loaded_jobs.specs.declared.jobs.Jobs.{Jobs}
use Rattle.loaded_jobs.specs.declared.job_slot.TheConstants.{ORDERS}

-- the table as a caller sees it
abbrev pub seen_table : Jobs → Table
seen_table t = record {
  reading = t.reading;
  zone = t.zone;
  settings = t.settings.items;
  is_shutting_down = t.is_shutting_down;
  rows = rows t.job_slots.items;
  gone = gone t.job_slots.items;
  orders = t.orders.items;
  visited = t.visited;
  names = map name t.job_slots.items;
  numbers = t.numbers;
  reserved = record {
    held_jobs = vec_len t.job_slots;
    jobs = vec_capacity t.job_slots;
    orders = vec_capacity t.orders;
    held_settings = vec_len t.settings;
    settings = vec_capacity t.settings;
    moments = room_of t.index.timers;
    marks = place_room t.index.marked;
    places = length t.index.places.items;
    held_triggers = vec_len t.triggers;
    triggers = vec_capacity t.triggers;
  };
}

-- each slot's number is given out
abbrev pub AreHeld : Slab (Unit {0}) → List JobSlot → Type 0
AreHeld numbers [] = Unit {0}
AreHeld numbers (e ∷ es) = (get numbers e.number ≡ Some tt) × AreHeld numbers es

-- each number that stands for no slot is free
abbrev pub AreFree : Slab (Unit {0}) → List Name → Type 0
AreFree numbers names =
    (number : ℕ) → definition_of_number names number ≡ None → get numbers number ≡ None

pub record IsSound (t : Jobs) : Type 0 where
  pub in_range : t.reading.up ≤ MAX_UP
  pub wall : t.reading.wall ≤ MAX_WALL
  pub once : IsOnce (map name t.job_slots.items)
  pub held : AreHeld t.numbers t.job_slots.items
  pub free : AreFree t.numbers (map name t.job_slots.items)
  pub few : vec_len t.job_slots ≤ MAX_JOBS
  pub known : list_all (is_known (map name t.job_slots.items)) t.orders.items ≡ true
  pub room : ORDERS * vec_len t.job_slots ≤ vec_capacity t.orders
  pub named : IsNamed t.index (map name t.job_slots.items)
  pub periods : HavePeriods (map name t.job_slots.items)
  pub calendars : t.has_calendars ≡ some_calendar (map name t.job_slots.items)
  pub listed : AreListed t.triggers.items (map name t.job_slots.items)
  pub order : AreInOrder (labels_in (map name t.job_slots.items))

-- between events the index is right too, and what says who may have gone is right
pub record IsWhole (t : Jobs) : Type 0 where
  pub sound : IsSound t
  pub indexed : IsIndexed t
  pub stay : StayBut t.gone t.job_slots.items
