-- The places passed are lowered; those ahead are as they were.
use Rattle.std.proofs.Common.{◌≡◌, ◌<◌, ◌≤◌, ◌-◌, ℕ, length}
use Rattle.loaded_jobs.specs.Index.{place_in, lowered}
use Rattle.loaded_jobs.proofs.index.lower_above.Given as goal

abbrev pub invariant-loop-number : goal.invariant-loop-number
invariant-loop-number l = record {
  below : l.number ≤ length l.places;
  long : length l.places ≡ length l.fn.places;
  passed : (n : ℕ) → n < l.number → place_in l.places n ≡ lowered l.place (place_in l.fn.places n);
  ahead : (n : ℕ) → l.number ≤ n → place_in l.places n ≡ place_in l.fn.places n;
}

abbrev pub decreases-loop-number : goal.decreases-loop-number
decreases-loop-number l = length l.places - l.number
