-- The moments of a job's pace, and which of them is next.
use Rattle.std.specs.Prelude.{◌≡◌, ℕ, ◌+◌, ◌*◌, ◌<◌, ◌≤◌, ◌⊎◌, Option, Some, None}
use Rattle.history_model.specs.Moments.{IsPeriod}
use Rattle.pace.specs.Paces.{Every, Spacing, Ends}
use Rattle.history_model.specs.declared.TheConstants.{SECOND}

-- an end of a period of the interval
abbrev pub IsPeriodEnd : Every → ℕ → Type 0
IsPeriodEnd e m = IsPeriod e.seconds e.load_up m

-- this number of milliseconds after the moment, if there is one
abbrev pub IsAfter : ℕ → Option ℕ → ℕ → Type 0
IsAfter wait None m = ⊥
IsAfter wait (Some moment) m = m ≡ moment + wait

-- the throttle after the last spawn order, or a second after the last refusal
abbrev pub IsSpawnMoment : Spacing → ℕ → Type 0
IsSpawnMoment s m = IsAfter (SECOND * s.seconds) s.order m ⊎ IsAfter SECOND s.refusal m

-- the timeout, if it is one, after the first TERM, or a second after the last refused TERM or KILL
abbrev pub IsEndMoment : Ends → ℕ → Type 0
IsEndMoment e m =
    ((0 < e.timeout) × IsAfter (SECOND * e.timeout) e.term_ordered m)
    ⊎ (IsAfter SECOND e.term_refused m ⊎ IsAfter SECOND e.kill_refused m)

-- the least of these moments that is after the present one; none if none is
abbrev pub IsNext : (ℕ → Type 0) → ℕ → Option ℕ → Type 0
IsNext IsMoment up None = (n : ℕ) → IsMoment n → n ≤ up
IsNext IsMoment up (Some m) = IsMoment m × (up < m) × ((n : ℕ) → IsMoment n → up < n → m ≤ n)
