-- What a clock reading does not reach.
use Rattle.std.specs.Prelude.{ℕ, ◌<◌, ⊤, Option, Some, None}

-- the moment comes after the clock reading, if there is one
abbrev pub IsLater : ℕ → Option ℕ → Type 0
IsLater up None = ⊤
IsLater up (Some moment) = up < moment
