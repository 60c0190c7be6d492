-- A setting that is made ready, and what it does.
use Rattle.std.specs.Prelude.{◌≡◌, ◌<◌, Bool, true, false, [], None, if◌then◌else◌}
use Rattle.history_model.specs.Labels.{Label}
use Rattle.history_model.specs.Machine.{State, Event, UnloadJob, Set}
use Rattle.history_model.specs.Acceptance.{refusal_in}
use Rattle.history_model.specs.Step.{outcome, step, received_one}
use Rattle.history_model.specs.declared.Ask.TheVariants.{Unload}
use Rattle.history_model.specs.Items.{Asked}
use Rattle.loaded_jobs.specs.declared.settings_change.NewSetting.{NewSetting}
use Rattle.loaded_jobs.specs.Tables.{Table}
use Rattle.loaded_jobs.specs.StandsFor.{KeepsState, acts_in}

-- `enable` or `disable`, or an unload that disables the label
abbrev pub set_of : Label → (disabled unload store : Bool) → Event
set_of label disabled unload store =
    if unload then UnloadJob label true store else Set label disabled store

-- the room that the setting takes is there, and an unload disables
pub record IsReadySet (table : Table) (ready : NewSetting) : Type 0 where
  pub room : table.reserved.held_settings < table.reserved.settings
  pub disables : ready.unload ≡ true → ready.setting.disabled ≡ true

-- the table as the setting leaves it: the machine's next state and its outcome
pub record IsChanged (table : Table) (s : State) (e : Event) : Type 0 where
  pub kept : KeepsState table (step s e)
  pub outcome : outcome s e ≡ record { refusal = None; orders = acts_in table; text = [] }

-- the setting is made in each state that the table stands for and that does not refuse it
abbrev pub Changes : Table → NewSetting → Table → Type 0
Changes old ready new = (s : State) (store : Bool) → KeepsState old s →
    refusal_in s (set_of ready.setting.label ready.setting.disabled ready.unload store) ≡ None →
    IsChanged new s (set_of ready.setting.label ready.setting.disabled ready.unload store)

-- the state once the job with the label heard its unload, if that is wanted
abbrev pub withdrawn : Label → Bool → State → State
withdrawn label true s = record s { jobs = received_one label (Asked Unload) s.jobs }
withdrawn label false s = s
