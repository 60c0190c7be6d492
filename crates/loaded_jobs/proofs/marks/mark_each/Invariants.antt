-- The places that were passed are marked.
use Rattle.std.proofs.Common.{nat_lt, ◌-◌, ◌≤◌}
use Rattle.loaded_jobs.specs.Marking.{Marks}
use Rattle.loaded_jobs.proofs.marks.mark_each.Given as goal

abbrev pub invariant-loop-place : goal.invariant-loop-place
invariant-loop-place l = record {
  marks : Marks l.fn.ready l.ready (λ place. nat_lt place l.place);
  below : l.place ≤ l.count;
}

abbrev pub decreases-loop-place : goal.decreases-loop-place
decreases-loop-place l = l.count - l.place
