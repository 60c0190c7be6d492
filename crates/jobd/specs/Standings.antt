-- The text of the status file.
use Rattle.std.specs.Prelude.{◌≡◌, ℕ, ◌++◌, List}
use Rattle.std.specs.List.{flat_map, AllByRecursion}
use Rattle.history_model.specs.Machine.{State}
use Rattle.loaded_jobs.specs.StandsFor.{KeepsState}
use Rattle.loaded_jobs.specs.Tables.{Table}
use Rattle.status_file.specs.Jobs.{IsOf, JobLine, text_of}

-- A front, which is the launcher's, and then lines of jobs. Of each machine that the table keeps, each of them says all the reasons and the times
-- of its own job, and no others.
abbrev pub IsStatusText : Table → List ℕ → Type 0
IsStatusText table text =
    (launcher : List ℕ) × (lines : List JobLine)
    × (text ≡ launcher ++ flat_map text_of lines)
    × ((s : State) → KeepsState table s → AllByRecursion (IsOf s) lines)
