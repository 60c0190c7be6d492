-- The numbers of the jobs that are gone among those passed are free, and only numbers of jobs that left were given back.
use Rattle.std.proofs.Common.{◌≡◌, ℕ, true, false, None, take}
use Rattle.std.specs.List.{list_any}
use Rattle.slab.specs.Slab.{get}
use Rattle.loaded_jobs.specs.JobSlots.{has_gone_under}
use Rattle.loaded_jobs.proofs.all_job_slots.release.Given as goal

abbrev pub invariant-loop-job_slot : goal.invariant-loop-job_slot
invariant-loop-job_slot l = record {
  freed : (number : ℕ) → list_any (has_gone_under number) (take l.job_slot-index l.job_slots) ≡ true → get l.numbers number ≡ None;
  others : (number : ℕ) → list_any (has_gone_under number) l.job_slots ≡ false → get l.numbers number ≡ get l.fn.numbers number;
  capacity : l.numbers.capacity ≡ l.fn.numbers.capacity;
}
