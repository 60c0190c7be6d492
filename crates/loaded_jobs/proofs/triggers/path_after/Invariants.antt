-- Of those after the text the ones that were passed are of jobs that left, and all from here on are after it.
use Rattle.std.proofs.Common.{◌≡◌, ◌≤◌, ◌<◌, ◌∷◌, ◌-◌, ℕ, Some, true, false, length}
use Rattle.std.specs.Prelude.{slice_get}
use Rattle.loaded_jobs.specs.Triggers.{is_behind, stays_under}
use Rattle.loaded_jobs.specs.declared.trigger.Listed.{Listed}
use Rattle.loaded_jobs.proofs.triggers.path_after.Given as goal

abbrev pub invariant-loop-place : goal.invariant-loop-place
invariant-loop-place l = record {
  passed : (k : ℕ) (one : Listed) → slice_get l.listed k ≡ Some one → k < l.place → is_behind (1 ∷ l.text) one ≡ true → stays_under l.places l.job_slots one ≡ false;
  ahead : (k : ℕ) (one : Listed) → slice_get l.listed k ≡ Some one → l.place ≤ k → is_behind (1 ∷ l.text) one ≡ true;
}

abbrev pub decreases-loop-place : goal.decreases-loop-place
decreases-loop-place l = length l.listed - l.place
