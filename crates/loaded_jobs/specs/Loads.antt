-- A load that is made ready, and what it does.
use Rattle.std.specs.Prelude.{◌≡◌, ◌≤◌, ◌<◌, ◌+◌, ◌*◌, Bool, false, not, ◌&&◌, List, [], ◌∷◌, ℕ, true, length, Option, Some, None, is_some, Result, Ok, Err}
use Rattle.slab.specs.Slab.{Slab, HasRoomFor}
use Rattle.history_model.specs.declared.Reading.{Reading}
use Rattle.history_model.specs.declared.event.Setting.{Setting}
use Rattle.history_model.specs.declared.Refusal.{Refusal}
use Rattle.history_model.specs.declared.Refusal.TheVariants.{SocketRefused}
use Rattle.history_model.specs.Items.{Loaded}
use Rattle.history_model.specs.FactsOfPast.{Keeps}
use Rattle.history_model.specs.Labels.{Label, is_same}
use Rattle.history_model.specs.Machine.{State, Event, Load}
use Rattle.history_model.specs.Acceptance.{refused_if, refusal_stored, refusal_in}
use Rattle.history_model.specs.Step.{outcome, step}
use Rattle.history_model.specs.Texts.{load_text}
use Rattle.history_model.specs.Described.{Described}
use Rattle.history_model.specs.Definitions.{definition, given, has_sockets}
use Rattle.loaded_jobs.specs.Tables.{Table, Name}
use Rattle.loaded_jobs.specs.StandsFor.{KeepsState, acts_in}
use Rattle.loaded_jobs.specs.Triggers.{triggers_of}
use Rattle.loaded_jobs.specs.declared.loading.Ready.{Ready}
use Rattle.loaded_jobs.specs.declared.trigger.Trigger.{Trigger}
use Rattle.std.specs.Vec.{vec_len}
use Rattle.history_model.specs.declared.TheConstants.{MAX_JOBS}
use Rattle.loaded_jobs.specs.declared.job_slot.TheConstants.{ORDERS}

-- the load of a definition that was read, with what the outside answers
abbrev pub load_of : Described → (writes_setting force bind store : Bool) → Event
load_of described writes_setting force bind store =
    Load (Ok (given described)) writes_setting force bind store

-- what is still to be asked of the outside: the sockets, then the store
abbrev pub refusal_outside : Described → (writes_setting bind store : Bool) → Option Refusal
refusal_outside described writes_setting bind store =
    refused_if (has_sockets described && not bind) SocketRefused
    (refusal_stored writes_setting store)

-- nothing but the outside refuses the load
abbrev pub IsAdmitted : Table → Described → (writes_setting force : Bool) → Type 0
IsAdmitted table described writes_setting force =
    (s : State) (bind store : Bool) → KeepsState table s →
    refusal_in s (load_of described writes_setting force bind store)
    ≡ refusal_outside described writes_setting bind store

-- no job has the label
abbrev pub IsAbsent : Label → List Name → Type 0
IsAbsent label [] = Unit {0}
IsAbsent label (name ∷ names) = (is_same label name.described.label ≡ false) × IsAbsent label names

-- the setting that enables the label, if the load writes one
abbrev pub enabled_if : Bool → Label → Option Setting
enabled_if false label = None
enabled_if true label = Some (record { label = label; disabled = false })

-- the job that a load makes, under the number that is given out next
pub record IsMade (at : Reading) (numbers : Slab (Unit {0})) (described : Described)
    (writes_setting : Bool) (ready : Ready) : Type 0 where
  pub number : ready.job_slot.number ≡ numbers.vacant_key
  pub same : ready.job_slot.def ≡ described
  pub loaded : Keeps ready.job_slot.core.facts (Loaded (definition described) at ∷ [])
  pub stays : ready.job_slot.has_gone ≡ false
  pub fresh : ready.job_slot.core.decided ≡ 0
  pub setting : ready.setting ≡ enabled_if writes_setting described.label

-- what was refused, if anything was
abbrev pub refused_with : {A : Type 0} → Result A Refusal → Option Refusal
refused_with (Ok a) = None
refused_with (Err refusal) = Some refusal

-- of what was made ready, the definition that was read
abbrev pub described_in : Ready → Described
described_in ready = ready.job_slot.def

-- the number that the job is to have
abbrev pub number_in : Ready → ℕ
number_in ready = ready.job_slot.number

-- what touches the job
abbrev pub triggers_in : Ready → List Trigger
triggers_in ready = ready.triggers.items

-- the label's new setting, if one is to be made
abbrev pub new_setting_in : Ready → Option Setting
new_setting_in ready = ready.setting

-- the room that the load takes is there, and the job that was made ready is a new one
pub record IsReady (table : Table) (ready : Ready) : Type 0 where
  pub tidy : length table.rows ≡ length table.names
  pub empty : table.orders ≡ []
  pub number : number_in ready ≡ table.numbers.vacant_key
  pub numbers : HasRoomFor table.numbers 1
  pub few : table.reserved.held_jobs < MAX_JOBS
  pub places : table.reserved.held_jobs < table.reserved.jobs
  pub orders : ORDERS * (table.reserved.held_jobs + 1) ≤ table.reserved.orders
  pub absent : IsAbsent (described_in ready).label table.names
  pub loaded : Keeps ready.job_slot.core.facts
      (Loaded (definition (described_in ready)) table.reading ∷ [])
  pub stays : ready.job_slot.has_gone ≡ false
  pub fresh : ready.job_slot.core.decided ≡ 0
  pub room : table.reserved.held_settings < table.reserved.settings
  pub moments : table.numbers.vacant_key < table.reserved.moments
  pub marks : table.reserved.held_jobs + 1 ≤ table.reserved.marks
  pub numbered : table.numbers.vacant_key < table.reserved.places
  pub setting : new_setting_in ready
      ≡ enabled_if (is_some (new_setting_in ready)) (described_in ready).label
  pub touches : triggers_in ready ≡ triggers_of (described_in ready)
  pub triggers : table.reserved.held_triggers + vec_len ready.triggers ≤ table.reserved.triggers

-- the table as the load leaves it: the machine's next state and its outcome, whose text names the keys that are not supported
pub record IsLoaded (table : Table) (described : Described) (s : State) (e : Event) : Type 0 where
  pub kept : KeepsState table (step s e)
  pub outcome : outcome s e
      ≡ record { refusal = None; orders = acts_in table; text = load_text described.not_acted_on }

-- what a load that was made ready does, whatever was forced and answered
abbrev pub Loads : Table → Ready → Table → Type 0
Loads old ready new = (s : State) (force bind store : Bool) → KeepsState old s →
    refusal_in s
    (Load (Ok (given (described_in ready))) (is_some (new_setting_in ready)) force bind store)
    ≡ None →
    IsLoaded new (described_in ready) s
    (Load (Ok (given (described_in ready))) (is_some (new_setting_in ready)) force bind store)
