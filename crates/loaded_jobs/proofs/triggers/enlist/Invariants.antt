-- Those that were taken are in the list, and there is room for those that are left.
use Rattle.std.proofs.Common.{◌≡◌, ◌≤◌, ◌+◌, Bool, count_by}
use Rattle.std.specs.Vec.{vec_capacity, vec_len}
use Rattle.loaded_jobs.specs.Triggers.{under, AreOrdered}
use Rattle.loaded_jobs.specs.declared.trigger.Listed.{Listed}
use Rattle.loaded_jobs.proofs.triggers.enlist.Given as goal

abbrev pub invariant-loop-trigger : goal.invariant-loop-trigger
invariant-loop-trigger l = record {
  exact : (test : Listed → Bool) → count_by test l.listed.items + count_by (λ trigger. test (under l.number trigger)) l.unlisted.items
      ≡ count_by test l.fn.listed.items + count_by (λ trigger. test (under l.number trigger)) l.fn.triggers.items;
  count : vec_len l.listed + vec_len l.unlisted ≡ vec_len l.fn.listed + vec_len l.fn.triggers;
  order : AreOrdered l.listed.items;
  room : vec_len l.listed + vec_len l.unlisted ≤ vec_capacity l.listed;
  capacity : vec_capacity l.listed ≡ vec_capacity l.fn.listed;
}

abbrev pub decreases-loop-trigger : goal.decreases-loop-trigger
decreases-loop-trigger l = vec_len l.unlisted
