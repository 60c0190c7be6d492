-- A launcher and its turns, as contracts see them.
use Rattle.std.specs.Prelude.{◌≡◌, ℕ, Bool, true, false, List, [], Option, Some, None, Ok}
use Rattle.history_model.specs.declared.Refusal.TheVariants.{BadRequest}
use Rattle.history_model.specs.declared.Refusal.{Refusal}
use Rattle.history_model.specs.declared.event.Setting.{Setting}
use Rattle.history_model.specs.Labels.{Label}
use Rattle.history_model.specs.Machine.{State}
use Rattle.history_model.specs.Acceptance.{refusal_in}
use Rattle.history_model.specs.Step.{outcome, step}
use Rattle.history_model.specs.Described.{Described}
use Rattle.job_defs.specs.Keys.{def_of}
use Rattle.ctl_protocol.specs.declared.header.Header.{Header}
use Rattle.ctl_protocol.specs.declared.request.Request.{Request}
use Rattle.ctl_protocol.specs.declared.request.Request.TheVariants as requests
use Rattle.ctl_protocol.specs.Requests.{event_with, unasked}
use Rattle.ctl_protocol.specs.EventWriter.{event_line}
use Rattle.ctl_protocol.specs.HeaderLines.{header_line}
use Rattle.loaded_jobs.specs.Tables.{Name, definition_of_number}
use Rattle.loaded_jobs.specs.StandsFor.{KeepsState}
use Rattle.child_edge.specs.Calls.{ToldCall}
use Rattle.ctl_protocol.specs.declared.request.Outside.{Outside}
use Rattle.outside.specs.Asking.{Told, told_of}
use Rattle.outside.specs.Stores.{HoldsAfter, Stamp, StoreCall, AreTold, set_call}
use Rattle.launcher.specs.Journals.{JournalState, Grows}
use Rattle.launcher.specs.HostTurns.{AreNumbered, IsLed, KeepsNumbers, TurnsOf, trace}
use Rattle.launcher.specs.LoadTurns.{AsksFor, AsksNothing, AsksStore, IsUntouched, Standing, is_memory, label_written, load_event, stamps_after, standing}
use Rattle.job_table.specs.Taking.{machine_event}
use Rattle.table_opening.specs.Openings.{OpensBy}
use Rattle.launcher.specs.Inputs.{Incoming, asked, event_of}
use Rattle.launcher.specs.Writable.{IsWritableHeader}
use Rattle.launcher.specs.declared.host.Host.{Host}

-- the state of the launcher, by what its outside and its store record
abbrev pub stands : {T E W : Type 0} →
    (E → Option (List ToldCall)) → (T → Option (List StoreCall)) → Host T E W → Standing
stands calls stores host =
    standing host.table (calls host.edge) (stores host.store) host.journal

-- ---- what is asked of the outside

-- the store is asked about a setting, and no socket is
abbrev pub AsksSetting : State → Request → Label → Bool → Outside → Told → Told → Type 0
AsksSetting s request label disabled outside before after =
    (after.calls ≡ before.calls) × (outside.bind ≡ true)
    × AsksStore (refusal_in s (machine_event (event_with unasked request)))
    (set_call label disabled s.reading.wall outside.store)
    before.stores after.stores

-- of a load its sockets and then the store, of a setting the store; of anything else nothing
abbrev pub AsksOutside : State → Incoming → ℕ → Outside → Told → Told → Type 0
AsksOutside s (asked (requests.Load load)) job outside before after =
    AsksFor (refusal_in s (load_event unasked load))
    (def_of load.def) job load.writes_setting s.reading.wall outside before after
AsksOutside s (asked (requests.Unload label true)) job outside before after =
    AsksSetting s (requests.Unload label true) label true outside before after
AsksOutside s (asked (requests.Set label disabled)) job outside before after =
    AsksSetting s (requests.Set label disabled) label disabled outside before after
AsksOutside s _ job outside before after = AsksNothing outside before after

-- a load asked for the job with the number that it then has
abbrev pub IsOwn : Incoming → List Name → ℕ → Type 0
IsOwn (asked (requests.Load load)) names job =
    (d : Described) → def_of load.def ≡ Ok d → definition_of_number names job ≡ Some d
IsOwn _ names job = Unit {0}

-- ---- turns

-- A turn of what came, for the machine s. First the outside was asked, and then it records the calls `mid`. The event
-- with its answers, and then the answers to the orders, are a turn of the machine, with these calls and these lines.
-- The numbers in the calls are those of the jobs that were loaded before it, and a job that stays loaded keeps its
-- number. The reply, a refusal or a text, is the event's. If the store held the settings of the machine, it holds them
-- afterwards.
pub record HostTurnOf (s : State) (incoming : Incoming) (refusal : Option Refusal)
    (words : List ℕ) (old new : Standing) (before after : List Setting → Type 0) : Type 0 where
  pub outside : Outside
  pub job : ℕ
  pub mid : Option (List ToldCall)
  pub asks : AsksOutside s incoming job outside
      (told_of old.calls old.stores) (told_of mid new.stores)
  pub turn : TurnsOf s (machine_event (event_of outside incoming))
      (event_line (event_of outside incoming)) refusal new.table
      (trace mid old.journal) (trace new.calls new.journal)
  pub own : refusal ≡ None → IsOwn incoming turn.names job
  pub numbers : refusal ≡ None → AreNumbered turn.names old.table
  pub stays : KeepsNumbers old.table new.table
  pub text : refusal ≡ None → (outcome s (machine_event (event_of outside incoming))).text ≡ words
  pub stored : before s.settings → after (step s (machine_event (event_of outside incoming))).settings

-- Nothing happened: the table represents what it represented, and nothing was asked of the outside. No line was
-- written, and the store holds the settings of the machine as before.
pub record IsSpared (old new : Standing) (before after : List Setting → Type 0) : Type 0 where
  pub untouched : IsUntouched old.table new.table
      (told_of old.calls old.stores) (told_of new.calls new.stores)
  pub silent : Grows old.journal new.journal []
  pub stored : (s : State) → KeepsState old.table s → before s.settings → after s.settings

-- what a call that heard an event leaves; whether memory was wanting comes first, and then the
-- journal is as it was, open or closed
abbrev pub ReceivesBy : Bool → Option Incoming → Option Refusal → List ℕ → Standing → Standing →
    (List Setting → Type 0) → (List Setting → Type 0) → Type 0
ReceivesBy true incoming refusal words old new before after =
    IsSpared old new before after × (new.journal ≡ old.journal)
ReceivesBy false None refusal words old new before after =
    (refusal ≡ Some BadRequest) × IsSpared old new before after
ReceivesBy false (Some incoming) refusal words old new before after =
    (s : State) → IsLed s → KeepsState old.table s →
    HostTurnOf s incoming refusal words old new before after

-- An event was heard, or what is none. Want of memory is not an event either. Else there was a turn of
-- it, for each machine that the table represented.
abbrev pub Receives : Option Incoming → Option Refusal → List ℕ → Standing → Standing →
    (List Setting → Type 0) → (List Setting → Type 0) → Type 0
Receives incoming refusal words old new before after =
    ReceivesBy (is_memory refusal) incoming refusal words old new before after

-- a launcher heard it: its states before and after are these, by what its outside records, and by what its store
-- records and holds
abbrev pub HostReceives : {T E W : Type 0} →
    (E → Option (List ToldCall)) → (T → Option (List StoreCall)) → (T → List Setting → Type 0) →
    Option Incoming → Option Refusal → List ℕ → Host T E W → Host T E W → Type 0
HostReceives calls stores holds incoming refusal words old new =
    Receives incoming refusal words (stands calls stores old) (stands calls stores new)
    (holds old.store) (holds new.store)

-- ---- the seconds of settings

-- the label whose setting a request asks the store to keep
abbrev pub label_asked : Option Incoming → Option Label
label_asked (Some (asked (requests.Load load))) = label_written load
label_asked (Some (asked (requests.Unload label true))) = Some label
label_asked (Some (asked (requests.Set label disabled))) = Some label
label_asked _ = None

-- The store has the seconds that it had; and if what came was accepted and asked for a setting, its
-- label has the second of the machine's reading.
abbrev pub HostStamps : {T E W : Type 0} → (T → List Stamp → Type 0) → Option Incoming →
    Option Refusal → Host T E W → Host T E W → Type 0
HostStamps stamped incoming refusal old new = (s : State) → KeepsState old.table s →
    HoldsAfter stamped (stamps_after (label_asked incoming) refusal s.reading.wall) old.store new.store

-- ---- the start

-- the header with these settings in place of its own
abbrev pub with_overrides : Header → List Setting → Header
with_overrides header settings =
    record { reading = header.reading; zone = header.zone; overrides = settings }

-- A new launcher. It stands for the machine that the header opens with the settings that the store gave, and has asked
-- the outside nothing. Its journal has that header's line, or a front of it. A line can say that header. If the store
-- held any settings, it holds those of this machine.
pub record IsNew (header : Header) (calls : Option (List ToldCall)) (stores : Option (List StoreCall))
    (journal : JournalState) (new : Standing) (before after : List Setting → Type 0) : Type 0 where
  pub settings : List Setting
  pub machine : State
  pub opens : OpensBy (with_overrides header settings) machine
  pub led : IsLed machine
  pub kept : KeepsState new.table machine
  pub none : new.calls ≡ calls
  pub uncalled : AreTold stores [] new.stores
  pub noted : Grows journal new.journal (header_line (with_overrides header settings))
  pub writable : IsWritableHeader (with_overrides header settings)
  pub stored : (list : List Setting) → before list → after machine.settings

-- and these are the settings that the store gave
abbrev pub IsNewWith : List Setting → Header → Option (List ToldCall) → Option (List StoreCall) →
    JournalState → Standing → (List Setting → Type 0) → (List Setting → Type 0) → Type 0
IsNewWith settings header calls stores journal new before after =
    (made : IsNew header calls stores journal new before after) × (made.settings ≡ settings)
