-- The next minute at which a calendar is due (launchd.plist(5), StartCalendarInterval).
use Rattle.std.specs.Prelude.{◌≡◌, ℕ, ◌%◌, ◌/◌, ◌<◌, ◌≤◌, Bool, true, List, Option, Some, None}
use Rattle.std.specs.List.{list_any}
use Rattle.history_model.specs.declared.Entry.{Entry}
use Rattle.history_model.specs.Calendar.{Zone, matches}

-- some entry matches what the clock shows at the second
abbrev pub is_matched : Zone → List Entry → ℕ → Bool
is_matched zone entries m = list_any (λ entry. matches entry (zone m)) entries

-- m is a whole minute after the one second and not after the other, and some entry matches it
abbrev pub IsDueIn : Zone → List Entry → ℕ → ℕ → ℕ → Type 0
IsDueIn zone entries after until m =
    (m % 60 ≡ 0) × (after < m) × (m ≤ until) × (is_matched zone entries m ≡ true)

-- the least such minute; none if there is none
abbrev pub IsFirstDue : Zone → List Entry → ℕ → ℕ → Option ℕ → Type 0
IsFirstDue zone entries after until None = (n : ℕ) → ¬ IsDueIn zone entries after until n
IsFirstDue zone entries after until (Some m) =
    IsDueIn zone entries after until m × ((n : ℕ) → IsDueIn zone entries after until n → m ≤ n)

-- the least such minute of a day, of those that are counted from 1970; none if there is none
abbrev pub IsFirstDueOn : Zone → List Entry → ℕ → ℕ → ℕ → Option ℕ → Type 0
IsFirstDueOn zone entries day after until None =
    (n : ℕ) → IsDueIn zone entries after until n → ¬ (n / 86_400 ≡ day)
IsFirstDueOn zone entries day after until (Some m) =
    IsDueIn zone entries after until m × (m / 86_400 ≡ day)
    × ((n : ℕ) → IsDueIn zone entries after until n → n / 86_400 ≡ day → m ≤ n)
