-- Both lists are the same as far as they were looked at.
use Rattle.std.proofs.Common.{◌≡◌, take}
use Rattle.override_store.proofs.known.are_same.Given as goal

abbrev pub invariant-loop-place : goal.invariant-loop-place
invariant-loop-place l = take l.place l.found ≡ take l.place l.known
