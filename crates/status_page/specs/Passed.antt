-- Which minute of a calendar passed while no launcher ran.
use Rattle.std.specs.Prelude.{◌≡◌, ℕ, Bool, true, false, min, List, Option, Some, None}
use Rattle.history_model.specs.declared.Entry.{Entry}
use Rattle.history_model.specs.declared.TheConstants.{MAX_WALL}
use Rattle.history_model.specs.Calendar.{Zone}
use Rattle.calendar_due.specs.Next.{IsFirstDue}
use Rattle.status_page.specs.declared.passed.Down.{Down}

-- The least whole minute that some entry matches, of those after the last second of the launcher before,
-- up to the first one of this launcher. None once the job was started, or if no launcher ran before.
abbrev pub HasPassed : Zone → List Entry → Bool → Option Down → Option ℕ → Type 0
HasPassed zone entries false (Some down) minute =
    IsFirstDue zone entries down.since (min down.until MAX_WALL) minute
HasPassed zone entries false None minute = minute ≡ None
HasPassed zone entries true down minute = minute ≡ None
