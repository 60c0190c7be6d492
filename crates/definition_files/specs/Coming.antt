-- How far ahead the minutes of a calendar are looked for.
use Rattle.std.specs.Prelude.{ℕ, ◌+◌, min}
use Rattle.history_model.specs.declared.TheConstants.{MAX_WALL}

-- the last second that is looked at: 2,930 days on, and no further than a clock reading may go
abbrev pub last_looked_at : ℕ → ℕ
last_looked_at after = min (after + 253152000) MAX_WALL
