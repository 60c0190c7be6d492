-- The numbers that were there are there, and after them come numbers without a bit.
use Rattle.std.proofs.Common.{◌≡◌, ◌≤◌, ◌-◌, ◌^◌, ℕ, length}
use Rattle.place_set.specs.Places.{has_bit}
use Rattle.place_set.proofs.PlaceSet.reserve.Given as goal

abbrev pub invariant-loop-self : goal.invariant-loop-self
invariant-loop-self l = record {
  places : (place : ℕ) → has_bit l.self-inside.words.items place ≡ has_bit l.initial.self-inside.words.items place;
  more : length l.initial.self-inside.words.items ≤ length l.self-inside.words.items;
  few : length l.self-inside.words.items ≤ 2 ^ 26;
  none : l.self-inside.passed ≡ 0;
}

abbrev pub decreases-loop-self : goal.decreases-loop-self
decreases-loop-self l = l.words - length l.self-inside.words.items
