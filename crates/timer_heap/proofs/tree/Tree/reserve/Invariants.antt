-- The leaves passed are there, and no other.
use Rattle.std.proofs.Common.{◌≡◌, ◌<◌, ◌≤◌, ◌*◌, ℕ, None}
use Rattle.timer_heap.specs.Nodes.{leaf, IsTree}
use Rattle.timer_heap.proofs.tree.Tree.reserve.Given as goal

abbrev pub invariant-loop-job : goal.invariant-loop-job
invariant-loop-job l = record {
  sound : IsTree l.grown;
  leaves : l.grown.leaves ≡ 2 * l.numbers;
  passed : (job : ℕ) → job < l.job → leaf l.grown job ≡ leaf l.fn.self job;
  empty : (job : ℕ) → l.job ≤ job → leaf l.grown job ≡ None;
}
