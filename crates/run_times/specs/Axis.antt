-- Where a time is on the axis of a chart, which goes from one second to another over a number of places.
use Rattle.std.specs.Prelude.{ℕ, ◌-◌, ◌*◌, ◌≤◌}

-- The place has begun at the second: of the axis's span at least the share is over that `place` has of
-- all places.
abbrev pub HasBegun : ℕ → ℕ → ℕ → ℕ → ℕ → Type 0
HasBegun from until places at place = place * (until - from) ≤ (at - from) * places

-- The last place that has begun at the second. Before the axis that is its beginning, and after it its
-- end.
abbrev pub IsPlace : ℕ → ℕ → ℕ → ℕ → ℕ → Type 0
IsPlace from until places at place =
    (place ≤ places) × HasBegun from until places at place
    × ((other : ℕ) → other ≤ places → HasBegun from until places at other → other ≤ place)
