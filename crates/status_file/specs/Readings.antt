-- What the reader says of the launcher and of a job, by the JSON value that was read: each field is that of its key.
use Rattle.std.specs.Prelude.{◌≡◌, ℕ, List, [], Bool, Option, Some, None, codes, is_some, option_and_then, unwrap_or, ⊤}
use Rattle.std.specs.Borrow.{Bor}
use Rattle.std.specs.List.{AllZip}
use Rattle.history_model.specs.declared.Act.{Act}
use Rattle.history_model.specs.declared.Act.TheVariants.{Spawn, Term, Kill, Close, Gone}
use Rattle.history_model.specs.declared.Ended.{Ended}
use Rattle.history_model.specs.declared.Ended.TheVariants.{Code, Signal}
use Rattle.history_model.specs.declared.Entry.{Entry}
use Rattle.history_model.specs.declared.Reading.{Reading}
use Rattle.history_model.specs.declared.reasons.DemandKind.{DemandKind}
use Rattle.history_model.specs.declared.reasons.Reasons.{Reasons}
use Rattle.history_model.specs.declared.reasons.StandingChild.{StandingChild}
use Rattle.history_model.specs.declared.reasons.Wants.{Wants}
use Rattle.job_core.specs.declared.job.moments.Moments.{Moments}
use Rattle.run_log.specs.declared.facts.RefusedStart.{RefusedStart}
use Rattle.run_log.specs.declared.facts.RunEnd.{RunEnd}
use Rattle.serde_json.specs.Data.{Data, null}
use Rattle.serde_json.specs.Find.{as_number, as_u64, at}
use Rattle.serde_json.specs.View.{items_of}
use Rattle.status_file.specs.Reads.{CountIf, FlagIf, IsReading, Lacks, NullOr, TextIf, count_at, flag_at, items_at, text_at, value_at}
use Rattle.status_file.specs.Tokens.{demand_text, disabled_text, order_text}
use Rattle.status_file.specs.declared.facts.JobFacts.{JobFacts}
use Rattle.status_file.specs.declared.status.BindStatus.{BindStatus}
use Rattle.status_file.specs.declared.status.DisabledBy.{DisabledBy}
use Rattle.status_file.specs.declared.status.JobKeys.{JobKeys}
use Rattle.status_file.specs.declared.status.JobNote.{JobNote}
use Rattle.status_file.specs.declared.status.JobStatus.{JobStatus}
use Rattle.status_file.specs.declared.status.JournalStatus.{JournalStatus}
use Rattle.status_file.specs.declared.status.JournalStatus.TheVariants as journals
use Rattle.status_file.specs.declared.status.KeyPaths.{KeyPaths}
use Rattle.status_file.specs.declared.status.LauncherStatus.{LauncherStatus}

-- ---- the launcher

-- the state of the journal, and why it is closed
abbrev pub JournalAt : Option Data → JournalStatus → Type 0
JournalAt object journals.None = text_at (codes "journal") object ≡ Some (codes "none")
JournalAt object journals.Open = text_at (codes "journal") object ≡ Some (codes "open")
JournalAt object (journals.Closed reason) =
    (text_at (codes "journal") object ≡ Some (codes "closed"))
    × (reason.now ≡ unwrap_or (text_at (codes "journal_reason") object) [])

-- a number or null, under a key that may be absent
abbrev pub LaterCount : List ℕ → Option Data → Option ℕ → Type 0
LaterCount key object count = Lacks (value_at key object) count (CountIf key object count)

-- a flag or null, under a key that may be absent
abbrev pub LaterFlag : List ℕ → Option Data → Option Bool → Type 0
LaterFlag key object flag = Lacks (value_at key object) flag (FlagIf key object flag)

-- the launcher of an object
pub record LauncherAt (object : Option Data) (launcher : LauncherStatus) : Type 0 where
  pub version : text_at (codes "version") object ≡ Some launcher.version.now
  pub pid : count_at (codes "pid") object ≡ Some launcher.pid
  pub began : count_at (codes "began") object ≡ Some launcher.began
  pub header : text_at (codes "header") object ≡ Some launcher.header.now
  pub at : IsReading (value_at (codes "at") object) launcher.at
  pub journal : JournalAt object launcher.journal
  pub store : TextIf (codes "store") object launcher.store
  pub renewed_each : LaterCount (codes "renewed_each") object launcher.renewed_each
  pub failed_calls : LaterCount (codes "failed_calls") object launcher.failed_calls
  pub is_shutting_down : LaterFlag (codes "shutting_down") object launcher.is_shutting_down
  pub jobs : count_at (codes "jobs") object ≡ Some launcher.jobs

-- a load that was refused, since a socket could not be bound
pub record BindAt (object : Option Data) (bind : BindStatus) : Type 0 where
  pub label : text_at (codes "label") object ≡ Some bind.label.now
  pub reason : text_at (codes "reason") object ≡ Some bind.reason.now
  pub at : IsReading (value_at (codes "at") object) bind.at

-- ---- what the table says of a job

-- the child that runs
pub record ChildAt (object : Option Data) (child : StandingChild) : Type 0 where
  pub run : count_at (codes "run") object ≡ Some child.run
  pub pid : count_at (codes "pid") object ≡ Some child.pid
  pub is_stopped : flag_at (codes "stopped") object ≡ Some child.is_stopped
  pub is_struck : flag_at (codes "struck") object ≡ Some child.is_struck

-- the number under the key, 0 where it is null
abbrev pub CountOr0 : List ℕ → Option Data → ℕ → Type 0
CountOr0 key object count = (given : Option ℕ) × CountIf key object given × (count ≡ unwrap_or given 0)

-- an order that has this run and this connection as far as it has one
abbrev pub HasRun : ℕ → Option ℕ → Act → Type 0
HasRun run conn (Spawn r c) = (r ≡ run) × (c ≡ conn)
HasRun run conn (Term r) = r ≡ run
HasRun run conn (Kill r) = r ≡ run
HasRun run conn (Close c) = c ≡ unwrap_or conn 0
HasRun run conn Gone = ⊤

-- the run of an order, and its connection
abbrev pub OrderOf : Option Data → Act → Type 0
OrderOf object (Spawn run conn) = CountOr0 (codes "run") object run × CountIf (codes "conn") object conn
OrderOf object (Term run) = CountOr0 (codes "run") object run
OrderOf object (Kill run) = CountOr0 (codes "run") object run
OrderOf object (Close conn) = CountOr0 (codes "conn") object conn
OrderOf object Gone = ⊤

-- the order whose answer is awaited
abbrev pub OrderAt : Option Data → Act → Type 0
OrderAt object act = (text_at (codes "order") object ≡ Some (order_text act)) × OrderOf object act

pub record WantsAt (object : Option Data) (wants : Wants) : Type 0 where
  pub demand : flag_at (codes "demand") object ≡ Some wants.demand
  pub connections : count_at (codes "connections") object ≡ Some wants.connections
  pub keep_alive : flag_at (codes "keep_alive") object ≡ Some wants.keep_alive
  pub successful_exit : flag_at (codes "successful_exit") object ≡ Some wants.successful_exit
  pub crashed : flag_at (codes "crashed") object ≡ Some wants.crashed
  pub path_state : flag_at (codes "path_state") object ≡ Some wants.path_state
  pub queue_directories : flag_at (codes "queue_directories") object ≡ Some wants.queue_directories

pub record ReasonsAt (object : Option Data) (reasons : Reasons) : Type 0 where
  pub is_removing : flag_at (codes "removing") object ≡ Some reasons.is_removing
  pub child : NullOr ChildAt (value_at (codes "child") object) reasons.child
  pub awaited : NullOr OrderAt (value_at (codes "awaited") object) reasons.awaited
  pub wants : WantsAt (value_at (codes "wants") object) reasons.wants
  pub throttled_until : CountIf (codes "throttled_until") object reasons.throttled_until
  pub is_launch_spent : flag_at (codes "launch_spent") object ≡ Some reasons.is_launch_spent
  pub are_runs_spent : flag_at (codes "runs_spent") object ≡ Some reasons.are_runs_spent

-- when its next orders are due, and from when on a clock reading starts it
pub record MomentsAt (object : Option Data) (moments : Moments) (spawns_from : Option ℕ) : Type 0 where
  pub term : CountIf (codes "term") object moments.term
  pub kill : CountIf (codes "kill") object moments.kill
  pub interval : CountIf (codes "interval") object moments.interval
  pub spawn : CountIf (codes "spawn") object spawns_from

-- what made its start request
abbrev pub DemandAt : Option Data → Option DemandKind → Type 0
DemandAt object None = value_at (codes "demand") object ≡ Some null
DemandAt object (Some kind) = text_at (codes "demand") object ≡ Some (demand_text kind)

pub record FactsAt (object : Option Data) (facts : JobFacts) : Type 0 where
  pub reasons : ReasonsAt (value_at (codes "reasons") object) facts.reasons
  pub moments : MomentsAt (value_at (codes "moments") object) facts.moments facts.spawns_from
  pub demand : DemandAt object facts.demand
  pub path : TextIf (codes "path") object facts.path

-- ---- what is known of its runs

-- a clock reading, or null; and one under a key that may be absent
abbrev pub ReadingIf : List ℕ → Option Data → Option Reading → Type 0
ReadingIf key object at = NullOr IsReading (value_at key object) at

abbrev pub LaterReading : List ℕ → Option Data → Option Reading → Type 0
LaterReading key object at = Lacks (value_at key object) at (ReadingIf key object at)

-- a text or null, under a key that may be absent
abbrev pub LaterText : List ℕ → Option Data → Option (Bor (List ℕ)) → Type 0
LaterText key object text = Lacks (value_at key object) text (TextIf key object text)

-- with a code if there is one, else by a signal
abbrev pub EndedAt : Option Data → Ended → Type 0
EndedAt object (Code code) = count_at (codes "code") object ≡ Some code
EndedAt object (Signal signal) = (value_at (codes "code") object ≡ None) × (count_at (codes "signal") object ≡ Some signal)

pub record EndAt (object : Option Data) (end : RunEnd) : Type 0 where
  pub run : count_at (codes "run") object ≡ Some end.run
  pub how : EndedAt object end.how
  pub ordered : LaterFlag (codes "ordered") object end.ordered
  pub began : IsReading (value_at (codes "began") object) end.began
  pub ended : IsReading (value_at (codes "ended") object) end.ended

pub record RefusedAt (object : Option Data) (start : RefusedStart) : Type 0 where
  pub run : count_at (codes "run") object ≡ Some start.run
  pub reason : TextIf (codes "reason") object start.reason
  pub at : IsReading (value_at (codes "at") object) start.at

pub record NoteAt (object : Option Data) (note : JobNote) : Type 0 where
  pub since : IsReading (value_at (codes "since") object) note.since
  pub run : count_at (codes "run") object ≡ Some note.run
  pub starts : count_at (codes "starts") object ≡ Some note.starts
  pub unsuccessful : count_at (codes "failures") object ≡ Some note.unsuccessful
  pub refusals : count_at (codes "refusals") object ≡ Some note.refusals
  pub started : ReadingIf (codes "started") object note.started
  pub term : ReadingIf (codes "term") object note.term
  pub kill : ReadingIf (codes "kill") object note.kill
  pub last_end : NullOr EndAt (value_at (codes "last_end") object) note.last_end
  pub succeeded : LaterReading (codes "succeeded") object note.succeeded
  pub refused : NullOr RefusedAt (value_at (codes "refused") object) note.refused
  pub definition : LaterText (codes "definition") object note.definition
  pub disabled_at : LaterReading (codes "disabled_at") object note.disabled_at

-- ---- what its definition says

pub record PathsAt (count first : List ℕ) (object : Option Data) (paths : KeyPaths) : Type 0 where
  pub many : count_at count object ≡ Some paths.count
  pub one : TextIf first object paths.first

-- the conditions of `KeepAlive`
pub record ConditionsAt (object : Option Data) (successful_exit crashed : Option Bool) (path_state : KeyPaths)
    (first_exists path_exists : Option Bool) : Type 0 where
  pub exit : FlagIf (codes "successful_exit") object successful_exit
  pub crash : FlagIf (codes "crashed") object crashed
  pub paths : PathsAt (codes "path_state") (codes "first_condition") object path_state
  pub first : FlagIf (codes "first_exists") object first_exists
  pub path : FlagIf (codes "path_exists") object path_exists

-- its times
pub record PaceAt (object : Option Data) (start_interval : Option ℕ) (throttle_interval exit_time_out : ℕ) : Type 0 where
  pub interval : CountIf (codes "start_interval") object start_interval
  pub throttle : count_at (codes "throttle_interval") object ≡ Some throttle_interval
  pub time_out : count_at (codes "exit_time_out") object ≡ Some exit_time_out

pub record KeysAt (object : Option Data) (keys : JobKeys) : Type 0 where
  pub run_at_load : flag_at (codes "run_at_load") object ≡ Some keys.run_at_load
  pub conditions : ConditionsAt object keys.successful_exit keys.crashed keys.path_state keys.first_exists keys.path_exists
  pub pace : PaceAt object keys.start_interval keys.throttle_interval keys.exit_time_out
  pub watch_paths : PathsAt (codes "watch_paths") (codes "first_watched") object keys.watch_paths
  pub queue_directories : PathsAt (codes "queue_directories") (codes "first_queue") object keys.queue_directories
  pub has_sockets : flag_at (codes "sockets") object ≡ Some keys.has_sockets
  pub errors : LaterText (codes "errors") object keys.errors
  pub knows_errors : keys.knows_errors ≡ is_some (value_at (codes "errors") object)

-- ---- a job

-- by what its label is disabled
abbrev pub DisabledAt : Option Data → Option DisabledBy → Type 0
DisabledAt object None = value_at (codes "disabled") object ≡ Some null
DisabledAt object (Some by) = text_at (codes "disabled") object ≡ Some (disabled_text by)

pub record JobAt (object : Option Data) (job : JobStatus) : Type 0 where
  pub label : text_at (codes "label") object ≡ Some job.label.now
  pub facts : FactsAt object job.facts
  pub note : NoteAt object job.note
  pub keys : KeysAt (value_at (codes "keys") object) job.keys
  pub disabled : DisabledAt object job.disabled

-- ---- its calendar

-- a number of an entry, or null
abbrev pub PartAt : Option Data → Option ℕ → Type 0
PartAt value None = value ≡ Some null
PartAt value (Some part) = option_and_then as_u64 (option_and_then as_number value) ≡ Some part

-- an entry: its minute, hour, day, weekday and month, and no more
pub record EntryAt (value : Data) (entry : Entry) : Type 0 where
  pub minute : PartAt (at 0 value) entry.minute
  pub hour : PartAt (at 1 value) entry.hour
  pub day : PartAt (at 2 value) entry.day
  pub weekday : PartAt (at 3 value) entry.weekday
  pub month : PartAt (at 4 value) entry.month
  pub no_more : at 5 value ≡ None

-- the entries of the calendar: one for each item of the list, in order
abbrev pub CalendarAt : Option Data → List Entry → Type 0
CalendarAt object entries =
    (values : List Data) × (items_at (codes "calendar") object ≡ Some (items_of values)) × AllZip EntryAt values entries
