-- What any turns of a launcher, one after another, come to.
use Rattle.std.specs.Prelude.{◌≡◌, List, map}
use Rattle.history_model.specs.declared.event.Setting.{Setting}
use Rattle.history_model.specs.Machine.{State}
use Rattle.history_model.specs.Step.{run, outcomes}
use Rattle.loaded_jobs.specs.StandsFor.{KeepsState}
use Rattle.job_table.specs.Taking.{machine_event}
use Rattle.launcher_laws.specs.TurnRuns.{Snapshot, Turn, Part, AreParts, events_in, outcomes_in}

-- From the machine s the turns led to the last snapshot, by the events of their parts. The replies
-- and the calls are the machine's, the table stands for the machine that the events lead to, and
-- the store holds that machine's settings.
pub record Lasts {T : Type 0} (holds : T → List Setting → Type 0) (s : State)
    (turns : List (Turn T)) (last : Snapshot T) : Type 0 where
  pub parts : List Part
  pub are_parts : AreParts turns parts
  pub all : outcomes_in parts ≡ outcomes (map machine_event (events_in parts)) s
  pub kept : KeepsState last.stands.table (run (map machine_event (events_in parts)) s)
  pub held : holds last.store (run (map machine_event (events_in parts)) s).settings

-- the settings of that machine
abbrev pub settings_at_last :
    {T : Type 0} {holds : T → List Setting → Type 0} {s : State} {turns : List (Turn T)}
    {last : Snapshot T} → Lasts holds s turns last → List Setting
settings_at_last {s = s} lasts = (run (map machine_event (events_in lasts.parts)) s).settings
