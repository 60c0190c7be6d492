-- What an event does to the table, and what it leaves as it was.
use Rattle.std.specs.Prelude.{◌≡◌, ◌+◌, Bool, true, false, length, is_some, Result, Ok, OnOk}
use Rattle.history_model.specs.declared.Reading.{Reading}
use Rattle.history_model.specs.declared.Refusal.{Refusal}
use Rattle.history_model.specs.Definitions.{given}
use Rattle.history_model.specs.Labels.{Label}
use Rattle.history_model.specs.Machine.{Event, Load, UnloadJob, Tick}
use Rattle.loaded_jobs.specs.Tables.{Table}
use Rattle.loaded_jobs.specs.TableOutcomes.{IsOutcome, IsNextTable, IsNextTableUnless, UnlessMemory}
use Rattle.loaded_jobs.specs.Counts.{counts, Counts, IsCounted}
use Rattle.loaded_jobs.specs.Touching.{SparesOthers, SparesUntouched}
use Rattle.loaded_jobs.specs.Numbers.{row_names, KeepsNames, IsNamedBeside}
use Rattle.loaded_jobs.specs.Room.{HasSameRoom, held_after, held_with}
use Rattle.loaded_jobs.specs.Loads.{Loads, described_in, new_setting_in, triggers_in}
use Rattle.loaded_jobs.specs.SettingChanges.{set_of, Changes}
use Rattle.loaded_jobs.specs.declared.loading.Ready.{Ready}
use Rattle.loaded_jobs.specs.declared.settings_change.NewSetting.{NewSetting}

-- The answer is the machine's, and the table stands for the machine's next state. Each job was visited
-- once or not at all, and the table says how many were; no job that the event is not for was visited.
-- No job changes its number, and no memory is taken
pub record Goes (e : Event) (old : Table) (result : Result (Unit {0}) Refusal) (new : Table) :
    Type 0 where
  pub answer : IsOutcome e old result new
  pub kept : IsNextTable e old new
  pub counted : Counts result old new
  pub spared : SparesOthers e old new
  pub names : KeepsNames result old new
  pub room : HasSameRoom old new

-- The same of an unload that writes no setting, whatever the store would answer
pub record GoesUnstored (label : Label) (old : Table) (result : Result (Unit {0}) Refusal)
    (new : Table) : Type 0 where
  pub answer : (store : Bool) → IsOutcome (UnloadJob label false store) old result new
  pub kept : (store : Bool) → IsNextTable (UnloadJob label false store) old new
  pub counted : Counts result old new
  pub spared : SparesOthers (UnloadJob label false true) old new
  pub names : KeepsNames result old new
  pub room : HasSameRoom old new

-- The same of a clock reading, for whose minutes memory may be wanting: the table then represents the states that it represented.
-- No job that the clock reading does not touch was visited
pub record GoesByReading (at : Reading) (old : Table) (result : Result (Unit {0}) Refusal)
    (new : Table) : Type 0 where
  pub answer : UnlessMemory result (IsOutcome (Tick at) old result new)
  pub kept : IsNextTableUnless result (Tick at) old new
  pub counted : Counts result old new
  pub spared : OnOk result (SparesUntouched at old new)
  pub names : KeepsNames result old new
  pub room : HasSameRoom old new

-- The same of a load that was made ready, which can't be refused. Each job keeps its number, and the new one has the number that
-- it was made ready with. The table holds the label's setting, if one was to be made, and the new job's triggers with the others
pub record GoesWithJob (ready : Ready) (old new : Table) : Type 0 where
  pub kept : Loads old ready new
  pub counted : IsCounted (counts old.rows) new.rows new.gone new.visited
  pub spared : (force bind store : Bool) →
      SparesOthers
      (Load (Ok (given (described_in ready))) (is_some (new_setting_in ready)) force bind store)
      old new
  pub names : IsNamedBeside ready old new
  pub room : HasSameRoom old new
  pub held : length new.settings ≡ held_after (new_setting_in ready) old.settings
  pub triggers : new.reserved.held_triggers
      ≡ old.reserved.held_triggers + length (triggers_in ready)

-- The same of a setting that was made ready, which can't be refused either. The table holds one setting
-- more only if the label had none
pub record GoesWithSetting (ready : NewSetting) (old new : Table) : Type 0 where
  pub kept : Changes old ready new
  pub counted : IsCounted (counts old.rows) new.rows new.gone new.visited
  pub spared : (store : Bool) →
      SparesOthers (set_of ready.setting.label ready.setting.disabled ready.unload store) old new
  pub names : new.names ≡ row_names old.rows
  pub room : HasSameRoom old new
  pub held : length new.settings ≡ held_with ready.setting.label old.settings
