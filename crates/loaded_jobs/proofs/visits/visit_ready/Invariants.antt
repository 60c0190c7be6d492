-- The walk has come as far as the front, and the marks before it are taken.
use Rattle.std.proofs.Common.{◌≡◌, true, ◌-◌, ◌+◌, ◌*◌, ◌≤◌, ◌<◌, ℕ, List, false, map, length}
use Rattle.std.specs.List.{list_all}
use Rattle.std.specs.Vec.{vec_capacity, vec_len}
use Rattle.place_set.specs.Places.{has_place, place_room}
use Rattle.timer_heap.specs.Timers.{room}
use Rattle.loaded_jobs.specs.Tables.{Name, is_known}
use Rattle.loaded_jobs.specs.JobSlots.{is_named, name}
use Rattle.loaded_jobs.specs.Leaving.{StayBut}
use Rattle.loaded_jobs.specs.Index.{AreAlone}
use Rattle.loaded_jobs.specs.AffectedJobs.{item_for}
use Rattle.loaded_jobs.specs.Visiting.{is_spared}
use Rattle.loaded_jobs.proofs.MomentsLemmas.{AreTimedTo}
use Rattle.loaded_jobs.proofs.VisitingLemmas.{IsWalked}
use Rattle.loaded_jobs.proofs.visits.visit_ready.Given as goal
use Rattle.loaded_jobs.specs.declared.job_slot.TheConstants.{ORDERS}

abbrev pub invariant-loop-number : goal.invariant-loop-number
invariant-loop-number l = record {
  front : l.front ≤ length l.fn.job_slots;
  taken : (place : ℕ) → place < l.front → has_place l.ready place ≡ false;
  behind : (place : ℕ) → l.front ≤ place → has_place l.ready place ≡ has_place l.fn.ready place;
  names : map name l.job_slots ≡ map name l.fn.job_slots;
  fits : vec_len l.orders + ORDERS * length l.fn.job_slots ≤ vec_capacity l.orders + ORDERS * l.front;
  capacity : vec_capacity l.orders ≡ vec_capacity l.fn.orders;
  few : l.visited ≤ l.front;
  known : (names : List Name) → list_all (is_named names) l.fn.job_slots ≡ true → list_all (is_known names) l.fn.orders.items ≡ true → list_all (is_known names) l.orders.items ≡ true;
  timed : AreTimedTo l.timers l.now.up (is_spared l.fn.ready) l.front l.job_slots;
  alone : AreAlone l.timers (map name l.fn.job_slots);
  marks : place_room l.ready ≡ place_room l.fn.ready;
  space : room l.timers ≡ room l.fn.timers;
  stays : StayBut l.gone l.job_slots;
  walked : IsWalked l.before l.now (item_for l.affected) (is_spared l.fn.ready) l.fn.job_slots l.fn.orders.items l.job_slots l.front l.orders.items l.visited;
}

abbrev pub decreases-loop-number : goal.decreases-loop-number
decreases-loop-number l = length l.fn.job_slots - l.front
