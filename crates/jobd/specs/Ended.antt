-- What the launcher says of its state to the live loop.
use Rattle.std.specs.Prelude.{◌≡◌, ◌&&◌, ℕ, Bool, true, false, Option, None}
use Rattle.history_model.specs.Machine.{State}
use Rattle.loaded_jobs.specs.NextMoments.{IsNextUp}
use Rattle.loaded_jobs.specs.StandsFor.{is_none, KeepsState}
use Rattle.loaded_jobs.specs.Tables.{Table}

-- Of each machine that the table keeps: it has ended exactly if a shutdown was accepted and no job is loaded. The next
-- time is the next one of its jobs, and none while the launcher lacks memory for a clock reading.
pub record SaysState (table : Table) (is_refused has_ended : Bool) (next : Option ℕ) : Type 0 where
  pub ended : (s : State) → KeepsState table s → has_ended ≡ (s.is_shutting_down && is_none s.jobs)
  pub waits : (s : State) → KeepsState table s → is_refused ≡ false → IsNextUp s.jobs next
  pub delivers : is_refused ≡ true → next ≡ None
