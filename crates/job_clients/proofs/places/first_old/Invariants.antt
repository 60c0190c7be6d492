-- What the loop of `places::first_old` keeps: the first of those that it went over.
use Rattle.std.proofs.Common.{◌≡◌, ◌≤◌, ◌<◌, ℕ, Bool, true, false, List, length, get_or}
use Rattle.std.specs.Prelude.{Option, Some, None}
use Rattle.job_clients.specs.declared.places.Received.{Received}
use Rattle.job_clients.specs.Places.{is_rival}
use Rattle.job_clients.proofs.places.first_old.Given as goal

-- of the callers so far, if one of them is a rival
abbrev pub IsEarliest : (Received → Bool) → List Received → ℕ → Option Received → Type 0
IsEarliest is_rival callers seen None =
    (k : ℕ) (d : Received) → k < seen → is_rival (get_or callers k d) ≡ false
IsEarliest is_rival callers seen (Some one) =
    ((k : ℕ) × (k < length callers) × (get_or callers k one ≡ one))
    × (is_rival one ≡ true)
    × ((k : ℕ) (d : Received) → k < seen → is_rival (get_or callers k d) ≡ true →
    one.came ≤ (get_or callers k d).came)

abbrev pub invariant-loop-one : goal.invariant-loop-one
invariant-loop-one l = IsEarliest (is_rival l.of_any l.bind) l.callers l.one-index l.first
