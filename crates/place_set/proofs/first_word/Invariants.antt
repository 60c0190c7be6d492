-- No number that was passed has a bit.
use Rattle.std.proofs.Common.{◌≡◌, ◌<◌, ◌-◌, ℕ, length, slice_index_or}
use Rattle.place_set.proofs.first_word.Given as goal

abbrev pub invariant-loop-at : goal.invariant-loop-at
invariant-loop-at l = (k : ℕ) → k < l.at → slice_index_or l.words k 0 ≡ 0

abbrev pub decreases-loop-at : goal.decreases-loop-at
decreases-loop-at l = length l.words - l.at
