-- What the passes of a live loop do to a launcher.
use Rattle.std.specs.Prelude.{◌≡◌, ◌≢◌, ◌⊎◌, ◌-◌, ◌≤◌, ℕ, Bool, true, false, ◌||◌, List, [], ◌∷◌, length, Option, Some, None, is_some, Result, Ok, Err}
use Rattle.history_model.specs.declared.Ended.{Ended}
use Rattle.history_model.specs.declared.Obs.{Obs}
use Rattle.history_model.specs.declared.Reading.{Reading}
use Rattle.history_model.specs.declared.Refusal.{Refusal}
use Rattle.history_model.specs.declared.Reply.{Reply}
use Rattle.history_model.specs.declared.event.Event.TheVariants as journaled
use Rattle.history_model.specs.declared.event.JobItem.TheVariants as happens
use Rattle.history_model.specs.declared.event.Setting.{Setting}
use Rattle.history_model.specs.Machine.{State, Tick}
use Rattle.loaded_jobs.specs.Nearest.{IsNearestOf, listed_paths}
use Rattle.loaded_jobs.specs.StandsFor.{KeepsState}
use Rattle.loaded_jobs.specs.Tables.{Table, label_of}
use Rattle.child_edge.specs.Calls.{ToldCall, TellsOne, poll_answer, look_answer, read_answer}
use Rattle.child_edge.specs.declared.plain.EdgeCall.TheVariants.{Poll, Close, Look, Clock}
use Rattle.child_edge.specs.declared.plain.EdgeFault.{EdgeFault}
use Rattle.child_edge.specs.declared.plain.Scripted.TheVariants.{Done}
use Rattle.outside.specs.Stores.{Stamp, StoreCall}
use Rattle.launcher.specs.declared.host.Host.{Host}
use Rattle.launcher.specs.Inputs.{Incoming, asked_by, event_if_label, happened}
use Rattle.launcher.specs.LoadTurns.{is_memory}
use Rattle.launcher.specs.Journals.{reported}
use Rattle.launcher.specs.TakenTurns.{TakesTurn}
use Rattle.launcher.specs.Writable.{WritesWhat}
use Rattle.live_loop.specs.Looks.{PathCall, BeginsLooks, HasLoaded, AsksAt, Awaits, LookedAt, Observed}
use Rattle.live_loop.specs.declared.loop_host.Delivered.{Delivered}
use Rattle.live_loop.specs.declared.loop_host.Delivered.TheVariants as handed
use Rattle.history_model.specs.News.{may_change}
use Rattle.history_model.specs.LeftOut.{last_read}
use Rattle.jobd.specs.KillWaits.{IsHanded, with_sleep}
use Rattle.jobd.specs.declared.round_launcher.RoundLauncher.{RoundLauncher}

-- the launcher, once its outside was asked something between turns
abbrev pub lent : {T E W : Type 0} → E → RoundLauncher T E W → RoundLauncher T E W
lent edge round = record round { host = record round.host { edge = edge } }

-- it was called for nothing, or for a clock reading alone
abbrev pub MayRead : Option (List ToldCall) → Option (List ToldCall) → Type 0
MayRead old new = (new ≡ old) ⊎ ((answer : Result Reading EdgeFault) × TellsOne old (Clock, read_answer answer) new)

-- The outside was asked something, for a clock reading at most, and nothing was delivered; or the closing of the journal was reported.
abbrev pub AsksEdge : {T E W : Type 0} → (E → Option (List ToldCall)) → RoundLauncher T E W → RoundLauncher T E W → Type 0
AsksEdge {E = E} calls old new = ((edge : E) × MayRead (calls old.host.edge) (calls edge) × (new ≡ lent edge old))
    ⊎ ((edge : E) × (calls edge ≡ calls old.host.edge)
    × (new ≡ record old { host = record old.host { edge = edge; journal = reported old.host.journal } }))

-- The edge took a client that waited at the sockets of the job; nothing was delivered, and nothing is recorded.
abbrev pub TakesClient : {T E W : Type 0} → (E → Option (List ToldCall)) → (ℕ → E → E → Type 0) → ℕ → RoundLauncher T E W → RoundLauncher T E W → Type 0
TakesClient {E = E} calls Accepts job old new =
    (edge : E) × (calls edge ≡ calls old.host.edge) × Accepts job old.host.edge edge × (new ≡ lent edge old)

-- what a path check gives, if the system did not refuse it
abbrev pub seen_by : Result Obs EdgeFault → Option Obs
seen_by (Ok obs) = Some obs
seen_by (Err fault) = None

-- whether the edge holds the connection of a client that was delivered, as it was found then
abbrev pub is_held : Delivered → Bool
is_held handed.Dropped = false
is_held handed.Received = true
is_held (handed.Refused refusal) = true

-- the label of the job, which fits the room that is reserved for labels
abbrev pub IsLabelOf : Table → ℕ → List ℕ → Type 0
IsLabelOf table job label =
    length (label_of table.names job) ≤ 255 → label ≡ label_of table.names job

-- the path that comes next after the text, of those that the loaded jobs list
abbrev pub ListsNext : {T E W : Type 0} → RoundLauncher T E W → List ℕ → Option (List ℕ) → Type 0
ListsNext round text next =
    (s : State) → KeepsState round.host.table s → IsNearestOf text (listed_paths s.jobs) next

-- What the clocks show, by this answer of one that stops in sleeps and this much sleep so far. It is the answer with
-- the sleep that is counted; or, if they can't be read, what they showed before.
abbrev pub Shows : {T E W : Type 0} → Result Reading EdgeFault → ℕ → RoundLauncher T E W → ℕ → Reading → Type 0
Shows (Ok awake) slept old handed shown =
    IsHanded (with_sleep old.slept awake).up old.host.table old.slept (slept - old.before) handed
    × (shown ≡ with_sleep handed awake)
Shows (Err fault) slept old handed shown = (handed ≡ old.slept) × (shown ≡ old.at)

module _ {T E W : Type 0} (calls : E → Option (List ToldCall)) (stores : T → Option (List StoreCall))
    (holds : T → List Setting → Type 0) (stamped : T → List Stamp → Type 0) where
  -- the launcher took it and replied so, and a line can say it: all that a turn promises
  pub record Received (event : Option Incoming) (refusal : Option Refusal) (words : List ℕ)
      (old new : Host T E W) : Type 0 where
    pub turn : TakesTurn calls stores holds stamped event refusal words old new
    pub writable : WritesWhat refusal event

  -- The clock reading of the pass was delivered, once; whether it was refused is noted.
  pub record ReceivedReading (old new : RoundLauncher T E W) : Type 0 where
    pub refusal : Option Refusal
    pub words : List ℕ
    pub received : Received (Some (happened (journaled.Clock old.at))) refusal words old.host new.host
    pub at : new.at ≡ old.at
    pub sleep : (new.before ≡ old.before) × (new.slept ≡ old.slept)
    pub loaded : new.has_loaded ≡ old.has_loaded
    pub refused : new.is_refused ≡ is_some refusal

  -- it is delivered, unless it is the launcher's own already
  abbrev pub Reads : RoundLauncher T E W → RoundLauncher T E W → Type 0
  Reads old new = ((old.host.table.reading ≡ old.at) × (new ≡ old))
      ⊎ ((old.host.table.reading ≢ old.at) × ReceivedReading old new)

  -- What happened was delivered, once, after the clock reading of the pass.
  pub record Gives (event : Option Incoming) (refusal : Option Refusal) (words : List ℕ)
      (old new : RoundLauncher T E W) : Type 0 where
    pub mid : RoundLauncher T E W
    pub reading : Reads old mid
    pub received : Received event refusal words mid.host new.host
    pub at : new.at ≡ mid.at
    pub sleep : (new.before ≡ mid.before) × (new.slept ≡ mid.slept)
    pub loaded : new.has_loaded ≡ mid.has_loaded
    pub refused : new.is_refused ≡ mid.is_refused

  -- it was delivered, and some text was the answer
  pub record Tells (event : Option Incoming) (refusal : Option Refusal)
      (old new : RoundLauncher T E W) : Type 0 where
    pub words : List ℕ
    pub gives : Gives event refusal words old new

  -- ---- the beginning of a pass

  -- the clock reading of the pass before is delivered, if the launcher had no memory for it
  abbrev pub ReadsIf : Bool → RoundLauncher T E W → RoundLauncher T E W → Type 0
  ReadsIf true old new = Reads old new
  ReadsIf false old new = new ≡ old

  -- The clocks are read once. The pass has what they show, if a launcher may hear it after the clock reading that it
  -- has. Else it has the clock reading of the one before.
  pub record ReadsClock (old new : RoundLauncher T E W) : Type 0 where
    pub answer : Result Reading EdgeFault
    pub slept : ℕ
    pub edge : E
    pub told : TellsOne (calls old.host.edge) (Clock, read_answer answer) (calls edge)
    pub handed : ℕ
    pub shown : Reading
    pub shows : Shows answer slept old handed shown
    pub read : new ≡ record (lent edge old) { at = last_read old.at (Tick shown); slept = handed }

  -- a clock reading is delivered by itself exactly if it may change something
  abbrev pub ReceivedIf : Bool → RoundLauncher T E W → RoundLauncher T E W → Type 0
  ReceivedIf true old new = ReceivedReading old new
  ReceivedIf false old new = new ≡ old

  pub record DeliversNews (old new : RoundLauncher T E W) : Type 0 where
    pub is_news : Bool
    pub decided : (s : State) → KeepsState old.host.table s →
        is_news ≡ may_change s.jobs old.host.table.reading old.at
    pub handed : ReceivedIf is_news old new

  -- A pass begins: first comes a clock reading for which the launcher had no memory, then a new one.
  pub record Begins (old new : RoundLauncher T E W) : Type 0 where
    pub first : RoundLauncher T E W
    pub missed : ReadsIf old.is_refused (record old { is_active = false }) first
    pub begun : RoundLauncher T E W
    pub reads : ReadsClock first begun
    pub news : DeliversNews begun new

  -- ---- children

  -- an end is delivered, as it was answered, and so is a refusal to wait
  abbrev pub TellsEnd : List ℕ → ℕ → Result (Option Ended) EdgeFault →
      RoundLauncher T E W → RoundLauncher T E W → Type 0
  TellsEnd label run (Ok None) old new = new ≡ old
  TellsEnd label run (Ok (Some how)) old new = (refusal : Option Refusal)
      × Tells (event_if_label label (journaled.OfJob label (happens.Ended run how))) refusal old new
  TellsEnd label run (Err fault) old new = (refusal : Option Refusal)
      × Tells (event_if_label label (journaled.OfJob label (happens.WaitRefused run))) refusal old new

  -- The child of this run of the job is polled once, and what was answered is delivered under the job's label.
  pub record PollsRun (job run : ℕ) (old new : RoundLauncher T E W) : Type 0 where
    pub answer : Result (Option Ended) EdgeFault
    pub edge : E
    pub told : TellsOne (calls old.host.edge) (Poll job run, poll_answer answer) (calls edge)
    pub label : List ℕ
    pub its : IsLabelOf old.host.table job label
    pub handed : TellsEnd label run answer (lent edge old) new

  -- The edge says whose child is over, and which run it was. That one is polled.
  abbrev pub PollsFrom : (ℕ → Option (ℕ × ℕ) → E → E → Type 0) → ℕ → Option ℕ →
      RoundLauncher T E W → RoundLauncher T E W → Type 0
  PollsFrom Finds first None old new =
      (edge : E) × (calls edge ≡ calls old.host.edge) × Finds first None old.host.edge edge × (new ≡ lent edge old)
  PollsFrom Finds first (Some job) old new = (run : ℕ) × (edge : E) × (calls edge ≡ calls old.host.edge)
      × Finds first (Some (job, run)) old.host.edge edge × PollsRun job run (lent edge old) new

  -- ---- paths

  -- What the path checks ask, and what they deliver: that path with that observation, for which no memory is wanted. A
  -- check by the edge is a check of that path.
  abbrev pub DoesPath : (List ℕ → Result Obs EdgeFault → E → E → Type 0) → PathCall →
      RoundLauncher T E W → RoundLauncher T E W → Type 0
  DoesPath Looks BeginsLooks old new = (edge : E) × (calls edge ≡ calls old.host.edge) × (new ≡ lent edge old)
  DoesPath Looks (HasLoaded loaded) old new =
      (loaded ≡ old.has_loaded) × (new ≡ record old { has_loaded = false })
  DoesPath Looks (AsksAt path answer) old new = (edge : E) × (calls edge ≡ calls old.host.edge) × (new ≡ lent edge old)
  DoesPath Looks (Awaits path answer) old new = (edge : E) × (calls edge ≡ calls old.host.edge) × (new ≡ lent edge old)
  DoesPath Looks (LookedAt path seen) old new = (answer : Result Obs EdgeFault) × (edge : E)
      × TellsOne (calls old.host.edge) (Look, look_answer answer) (calls edge)
      × Looks path answer old.host.edge edge
      × (seen ≡ seen_by answer) × (new ≡ lent edge old)
  DoesPath Looks (Observed path obs) old new = (refusal : Option Refusal)
      × (is_memory refusal ≢ true) × Tells (Some (happened (journaled.Saw path obs))) refusal old new

  -- ---- clients

  -- What became of a client under this number. The edge did not hold it, and nothing was delivered. Or the job heard
  -- that it came. Or the launcher refused it, and it was closed under this number.
  abbrev pub TellsCame : List ℕ → ℕ → ℕ → Delivered →
      RoundLauncher T E W → RoundLauncher T E W → Type 0
  TellsCame label job conn handed.Dropped old new = new ≡ old
  TellsCame label job conn handed.Received old new =
      Tells (event_if_label label (journaled.OfJob label (happens.Came conn))) None old new
  TellsCame label job conn (handed.Refused refusal) old new =
      (mid : RoundLauncher T E W) × (edge : E)
      × Tells (event_if_label label (journaled.OfJob label (happens.Came conn))) (Some refusal) old mid
      × TellsOne (calls mid.host.edge) (Close job conn, Done) (calls edge) × (new ≡ lent edge mid)

  -- A client of the job came, under this number. The edge was given its connection to hold, under the number and for the job, with this request.
  pub record ComesIn (Holds : ℕ → ℕ → List ℕ → Bool → E → E → Type 0) (conn job : ℕ) (request : List ℕ) (answer : Delivered)
      (old new : RoundLauncher T E W) : Type 0 where
    pub edge : E
    pub told : calls edge ≡ calls old.host.edge
    pub given : Holds conn job request (is_held answer) old.host.edge edge
    pub label : List ℕ
    pub its : IsLabelOf old.host.table job label
    pub handed : TellsCame label job conn answer (lent edge old) new

  -- a control client's line was delivered, and this is its reply; a load that was accepted is noted, and then the outside hears of the reply
  pub record AnswersLine (line : List ℕ) (reply : Reply) (old new : RoundLauncher T E W) : Type 0 where
    pub mid : RoundLauncher T E W
    pub gives : Gives (asked_by line) reply.refusal reply.text old mid
    pub edge : E
    pub told : calls edge ≡ calls mid.host.edge
    pub noted : new ≡ record (lent edge mid) { has_loaded = mid.has_loaded || mid.host.has_loaded }
