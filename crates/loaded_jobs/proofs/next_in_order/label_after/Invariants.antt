-- Of the jobs after the text those that were passed have no child, and all from here on are after it.
use Rattle.std.proofs.Common.{◌≡◌, ◌≤◌, ◌-◌, ℕ, Some, true, length}
use Rattle.std.specs.Prelude.{slice_get}
use Rattle.history_model.specs.Labels.{is_before}
use Rattle.loaded_jobs.specs.declared.job_slot.JobSlot.{JobSlot}
use Rattle.loaded_jobs.proofs.ChildLemmas.{ArePassedBy}
use Rattle.loaded_jobs.proofs.next_in_order.label_after.Given as goal

abbrev pub invariant-loop-place : goal.invariant-loop-place
invariant-loop-place l = record {
  passed : ArePassedBy l.text l.job_slots l.place;
  ahead : (k : ℕ) (e : JobSlot) → slice_get l.job_slots k ≡ Some e → l.place ≤ k → is_before l.text e.def.label ≡ true;
}

abbrev pub decreases-loop-place : goal.decreases-loop-place
decreases-loop-place l = length l.job_slots - l.place
