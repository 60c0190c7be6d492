-- What the jobs hear of an event, and which jobs it reaches.
use Rattle.std.specs.Prelude.{ℕ, ◌==◌, Bool, true, Option, Some, None, if◌then◌else◌}
use Rattle.std.specs.List.{list_any}
use Rattle.history_model.specs.declared.Ask.TheVariants as asks
use Rattle.history_model.specs.Items.{Item, Read, Saw, Asked}
use Rattle.history_model.specs.Calendar.{matches}
use Rattle.history_model.specs.Step.{lists}
use Rattle.history_model.specs.Described.{Described}
use Rattle.history_model.specs.Definitions.{definition}
use Rattle.loaded_jobs.specs.declared.job_slot.AffectedJobs.{AffectedJobs}
use Rattle.loaded_jobs.specs.declared.job_slot.AffectedJobs.TheVariants.{Shutdown, Reading, Observation}

-- what a job with this definition hears of the touch, if it hears anything
abbrev pub item_for : AffectedJobs → Described → Option Item
item_for Shutdown d = Some (Asked asks.Shutdown)
item_for (Reading at minutes) d =
    Some (Read at
    (list_any (λ minute. list_any (λ entry. matches entry minute) d.calendar) minutes.now))
item_for (Observation path obs) d =
    if lists (definition d) path.now then Some (Saw path.now obs) else None

-- a job with this definition hears something of the touch
abbrev pub is_touched : AffectedJobs → Described → Bool
is_touched Shutdown d = true
is_touched (Reading at minutes) d = true
is_touched (Observation path obs) d = lists (definition d) path.now

-- the touch reaches the jobs that receive something of it, at whatever place
abbrev pub reaches : AffectedJobs → ℕ → Described → Bool
reaches affected place d = is_touched affected d

-- no job hears anything
abbrev pub nothing_for : Described → Option Item
nothing_for d = None

-- the job at this place is reached, whatever its definition, and no other
abbrev pub is_at : ℕ → ℕ → Described → Bool
is_at reached place d = reached == place
