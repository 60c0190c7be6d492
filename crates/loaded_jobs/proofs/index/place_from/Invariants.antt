-- The slots passed, and those before, have their places.
use Rattle.std.proofs.Common.{◌≡◌, ◌<◌, ◌≤◌, ◌-◌, ℕ, Some, length}
use Rattle.std.specs.Prelude.{slice_get}
use Rattle.loaded_jobs.specs.Index.{place_in}
use Rattle.loaded_jobs.specs.declared.job_slot.JobSlot.{JobSlot}
use Rattle.loaded_jobs.proofs.index.place_from.Given as goal

abbrev pub invariant-loop-place : goal.invariant-loop-place
invariant-loop-place l = record {
  below : l.place ≤ length l.job_slots;
  long : length l.places ≡ length l.fn.places;
  placed : (k : ℕ) (e : JobSlot) → slice_get l.job_slots k ≡ Some e → k < l.place → place_in l.places e.number ≡ k;
}

abbrev pub decreases-loop-place : goal.decreases-loop-place
decreases-loop-place l = length l.job_slots - l.place
