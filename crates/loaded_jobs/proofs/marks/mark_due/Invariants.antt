-- What is marked so far.
use Rattle.std.proofs.Common.{◌≡◌, ℕ, true}
use Rattle.place_set.specs.Places.{has_place, place_room}
use Rattle.timer_heap.specs.Timers.{room, timer_count}
use Rattle.loaded_jobs.specs.Marking.{IsReachedAt}
use Rattle.loaded_jobs.proofs.MarkingLemmas.{IsSoFar}
use Rattle.loaded_jobs.proofs.marks.mark_due.Given as goal

abbrev pub invariant-loop-number : goal.invariant-loop-number
invariant-loop-number l = record {
  so_far : (number : ℕ) → IsSoFar l.fn.timers l.timers l.places l.ready number;
  marks : (place : ℕ) → has_place l.ready place ≡ true → IsReachedAt l.up l.fn.timers l.places place;
  space : place_room l.ready ≡ place_room l.fn.ready;
  spaces : room l.timers ≡ room l.fn.timers;
}

abbrev pub decreases-loop-number : goal.decreases-loop-number
decreases-loop-number l = timer_count l.timers
