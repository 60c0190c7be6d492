-- Both are the same as far as they were looked at.
use Rattle.std.proofs.Common.{◌≡◌, take}
use Rattle.override_store.proofs.sameness.all_same.Given as goal

abbrev pub invariant-loop-place : goal.invariant-loop-place
invariant-loop-place g l = take l.place l.one ≡ take l.place l.other
