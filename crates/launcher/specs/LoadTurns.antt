-- The turn of a load, and of a setting: what it asked of the outside, and then its events.
use Rattle.std.specs.Prelude.{◌≡◌, ◌||◌, is_some, ℕ, Bool, true, false, List, [], ◌∷◌, Option, Some, None, Result, Ok, Err, if◌then◌else◌}
use Rattle.history_model.specs.declared.Refusal.{Refusal}
use Rattle.history_model.specs.declared.Refusal.TheVariants.{NoMemory}
use Rattle.history_model.specs.declared.event.Setting.{Setting}
use Rattle.history_model.specs.Labels.{Label}
use Rattle.history_model.specs.Machine.{State, Event, Load, Fault}
use Rattle.history_model.specs.Acceptance.{refusal_in}
use Rattle.history_model.specs.Step.{outcome, step}
use Rattle.history_model.specs.Described.{Described}
use Rattle.history_model.specs.Definitions.{given}
use Rattle.job_defs.specs.Keys.{def_of}
use Rattle.loaded_jobs.specs.Tables.{Table, Name, definition_of_number}
use Rattle.loaded_jobs.specs.StandsFor.{KeepsState, acts_in}
use Rattle.loaded_jobs.specs.Loads.{refusal_outside, described_in, number_in, new_setting_in}
use Rattle.job_table.specs.Taking.{machine_event}
use Rattle.loaded_jobs.specs.declared.loading.Ready.{Ready}
use Rattle.loaded_jobs.specs.SettingChanges.{set_of}
use Rattle.loaded_jobs.specs.TableOutcomes.{IsSameFor}
use Rattle.child_edge.specs.Calls.{Tells, ToldCall}
use Rattle.ctl_protocol.specs.declared.request.LoadRequest.{LoadRequest}
use Rattle.ctl_protocol.specs.declared.request.Outside.{Outside}
use Rattle.ctl_protocol.specs.declared.request.Request.TheVariants as requests
use Rattle.ctl_protocol.specs.Requests.{event_with, unasked}
use Rattle.outside.specs.Asking.{Asks, Told, told_of}
use Rattle.outside.specs.Stores.{Stamp, StoreCall, AreTold, set_call}
use Rattle.launcher.specs.Journals.{JournalState, Grows}
use Rattle.launcher.specs.HostTurns.{AreNumbered, IsLed, KeepsNumbers, TurnsOf, Trace, trace}
use Rattle.launcher.specs.JournaledLines.{load_line, set_line}

-- want of memory is the answer
abbrev pub is_memory : Option Refusal → Bool
is_memory (Some NoMemory) = true
is_memory _ = false

-- the settings of the machine after the event; want of memory is not an event
abbrev pub settings_after : Option Refusal → State → Event → List Setting
settings_after reply s e = if is_memory reply then s.settings else (step s e).settings

-- the seconds of settings after a request of which this was the answer: the label whose setting an
-- accepted request wrote has this second
abbrev pub stamps_after : Option Label → Option Refusal → ℕ → List Stamp → List Stamp
stamps_after None refusal second stamps = stamps
stamps_after (Some label) None second stamps = (label, second) ∷ stamps
stamps_after (Some label) (Some refusal) second stamps = stamps

-- ---- what was asked

-- neither the edge nor the store was asked, and the table represents the states that it represented, with the same jobs
-- under the same numbers
pub record IsUntouched (old new : Table) (before after : Told) : Type 0 where
  pub same : IsSameFor old new
  pub rows : new.rows ≡ old.rows
  pub tells : Tells before.calls [] after.calls
  pub stores : AreTold before.stores [] after.stores

-- nothing was asked, and counts as answered well
pub record AsksNothing (outside : Outside) (before after : Told) : Type 0 where
  pub bind : outside.bind ≡ true
  pub store : outside.store ≡ true
  pub tells : Tells before.calls [] after.calls
  pub stores : AreTold before.stores [] after.stores

-- a load asks nothing, if the machine refuses it whatever the outside answers; if not, it asks as
-- its definition says
abbrev pub AsksFor : Option Refusal → Result Described Fault → ℕ → Bool → ℕ → Outside →
    Told → Told → Type 0
AsksFor (Some refusal) read job writes_setting wall outside before after =
    AsksNothing outside before after
AsksFor None (Err fault) job writes_setting wall outside before after =
    AsksNothing outside before after
AsksFor None (Ok d) job writes_setting wall outside before after =
    Asks job d writes_setting wall outside before after

-- so a setting makes this one call of the store
abbrev pub AsksStore : Option Refusal → StoreCall → Option (List StoreCall) →
    Option (List StoreCall) → Type 0
AsksStore (Some refusal) call stored stored' = (call.stored ≡ true) × AreTold stored [] stored'
AsksStore None call stored stored' = AreTold stored (call ∷ []) stored'

-- ---- whole turns

-- What contracts see of a launcher: its table, the calls that its outside records, those that its store
-- records, and the journal.
pub record Standing : Type 0 where
  pub table : Table
  pub calls : Option (List ToldCall)
  pub stores : Option (List StoreCall)
  pub journal : JournalState

-- its state with these
abbrev pub standing :
    Table → Option (List ToldCall) → Option (List StoreCall) → JournalState → Standing
standing table calls stores journal =
    record { table = table; calls = calls; stores = stores; journal = journal }

-- the machine's event of a load, with these answers of the outside
abbrev pub load_event : Outside → LoadRequest → Event
load_event outside load = machine_event (event_with outside (requests.Load load))

-- the label that the text defines, if it does
abbrev pub label_read : Result Described Fault → Option Label
label_read (Ok d) = Some d.label
label_read (Err fault) = None

-- the label whose setting a load writes
abbrev pub label_written : LoadRequest → Option Label
label_written request =
    if request.writes_setting then label_read (def_of request.def) else None

-- The turn of a load. First it asked the outside, in the clock reading's second, for the job with the number that it
-- then has. The load with these answers, and the answers to what it orders, are a turn of the machine. The first line
-- of that turn says these answers. The numbers in its calls are those of the jobs that were loaded before it, and of
-- the new one; a job that stays loaded keeps its number.
pub record LoadTurnOf (s : State) (load : LoadRequest) (outside : Outside)
    (reply : Option Refusal) (before after : Standing) : Type 0 where
  pub job : ℕ
  pub mid : Option (List ToldCall)
  pub asks : AsksFor (refusal_in s (load_event unasked load))
      (def_of load.def) job load.writes_setting s.reading.wall outside
      (told_of before.calls before.stores) (told_of mid after.stores)
  pub turn : TurnsOf s (load_event outside load) (load_line load outside) reply after.table
      (trace mid before.journal) (trace after.calls after.journal)
  pub own : reply ≡ None → (d : Described) → def_of load.def ≡ Ok d →
      definition_of_number turn.names job ≡ Some d
  pub numbers : reply ≡ None → AreNumbered turn.names before.table
  pub stays : KeepsNumbers before.table after.table

-- The turn of a setting. First the store was asked. The setting with its answer, and the answers to what it orders, are
-- a turn of the machine, whose first line says this answer. The numbers in its calls are those of the jobs that were
-- loaded before it; a job that stays loaded keeps its number.
pub record SetTurnOf (s : State) (label : Label) (disabled unload kept : Bool)
    (reply : Option Refusal) (before after : Standing) : Type 0 where
  pub asks : AsksStore (refusal_in s (set_of label disabled unload true))
      (set_call label (disabled || unload) s.reading.wall kept)
      before.stores after.stores
  pub turn : TurnsOf s (set_of label disabled unload kept)
      (set_line label disabled unload kept) reply after.table
      (trace before.calls before.journal) (trace after.calls after.journal)
  pub numbers : reply ≡ None → AreNumbered turn.names before.table
  pub stays : KeepsNumbers before.table after.table

-- ---- on the way

-- the rest of a turn whose first event was accepted, by the names of the table that it left
pub record Finishes (s : State) (e : Event) (line : List ℕ) (names : List Name) (new : Table)
    (before after : Trace) : Type 0 where
  pub turn : TurnsOf s e line None new before after
  pub names_are : turn.names ≡ names

-- the table stands for the machine after an event that was accepted, whose orders it still has to
-- give
pub record HasTaken (s : State) (e : Event) (table : Table) : Type 0 where
  pub kept : KeepsState table (step s e)
  pub accepted : (outcome s e).refusal ≡ None
  pub orders : (outcome s e).orders ≡ acts_in table

-- the machine's event of a load that was made ready, with these answers of the outside
abbrev pub ready_load : Ready → Bool → Bool → Bool → Event
ready_load ready force bind store =
    Load (Ok (given (described_in ready))) (is_some (new_setting_in ready)) force bind store

-- a load that was accepted is the first event of a turn, which knows the new job, and those that
-- were loaded, under their numbers
pub record Makes (s : State) (e : Event) (line : List ℕ) (ready : Ready) (old new : Table)
    (before after : Trace) : Type 0 where
  pub turn : TurnsOf s e line None new before after
  pub own : definition_of_number turn.names (number_in ready) ≡ Some (described_in ready)
  pub numbers : AreNumbered turn.names old

-- a setting that was accepted is the first event of a turn, which knows the jobs that were loaded
-- under their numbers
pub record Sets (s : State) (e : Event) (line : List ℕ) (old new : Table) (before after : Trace) :
    Type 0 where
  pub turn : TurnsOf s e line None new before after
  pub numbers : AreNumbered turn.names old

-- the outside was asked about a load that was made ready, and its line was written; if the
-- outside refused, nothing more happened, and else the load was made
pub record EndsLoad (ready : Ready) (writes_setting : Bool) (wall : ℕ) (outside : Outside)
    (refusal : Option Refusal) (line : List ℕ) (before after : Standing) : Type 0 where
  pub mid : Option (List ToldCall)
  pub asks : Asks (number_in ready) (described_in ready) writes_setting wall outside
      (told_of before.calls before.stores) (told_of mid after.stores)
  pub answer : refusal
      ≡ refusal_outside (described_in ready) writes_setting outside.bind outside.store
  pub refused : (r : Refusal) → refusal ≡ Some r →
      (after.table ≡ before.table) × (after.calls ≡ mid)
      × Grows before.journal after.journal line
  pub made : refusal ≡ None → (s : State) (force bind store : Bool) → IsLed s →
      KeepsState before.table s → refusal_in s (ready_load ready force bind store) ≡ None
      → Makes s (ready_load ready force bind store) line ready before.table after.table
      (trace mid before.journal) (trace after.calls after.journal)
