-- The tokens of JSON (RFC 8259) of which the lines of a status file consist.
use Rattle.std.specs.Prelude.{◌≡◌, ℕ, List, [], ◌∷◌, ◌++◌, map, Bool, Option, Some, None, codes, decimal}
use Rattle.std.specs.List.{flat_map}
use Rattle.std.specs.Borrow.{Bor}
use Rattle.json.specs.Token.{Token, begin_object, end_object, begin_array, end_array, key, string, number, boolean, null}
use Rattle.history_model.specs.Texts.{state_text}
use Rattle.history_model.specs.declared.JobState.{JobState}
use Rattle.history_model.specs.declared.Reading.{Reading}
use Rattle.history_model.specs.declared.Entry.{Entry}
use Rattle.history_model.specs.declared.Ended.{Ended}
use Rattle.history_model.specs.declared.Ended.TheVariants.{Code, Signal}
use Rattle.history_model.specs.declared.Act.{Act}
use Rattle.history_model.specs.declared.Act.TheVariants.{Spawn, Term, Kill, Close, Gone}
use Rattle.history_model.specs.declared.reasons.DemandKind.{DemandKind}
use Rattle.history_model.specs.declared.reasons.DemandKind.TheVariants as kinds
use Rattle.history_model.specs.declared.reasons.Reasons.{Reasons}
use Rattle.history_model.specs.declared.reasons.StandingChild.{StandingChild}
use Rattle.history_model.specs.declared.reasons.Wants.{Wants}
use Rattle.job_core.specs.declared.job.moments.Moments.{Moments}
use Rattle.status_file.specs.States.{state_by_reasons}
use Rattle.status_file.specs.declared.facts.JobFacts.{JobFacts}
use Rattle.status_file.specs.declared.line.Piece.{Piece}
use Rattle.status_file.specs.declared.line.Piece.TheVariants as pieces
use Rattle.status_file.specs.declared.status.BindStatus.{BindStatus}
use Rattle.status_file.specs.declared.status.DisabledBy.{DisabledBy}
use Rattle.status_file.specs.declared.status.DisabledBy.TheVariants.{Definition, Override}
use Rattle.status_file.specs.declared.status.JobKeys.{JobKeys}
use Rattle.status_file.specs.declared.status.JobNote.{JobNote}
use Rattle.status_file.specs.declared.status.JobStatus.{JobStatus}
use Rattle.status_file.specs.declared.status.JournalStatus.{JournalStatus}
use Rattle.status_file.specs.declared.status.JournalStatus.TheVariants as journals
use Rattle.status_file.specs.declared.status.LauncherStatus.{LauncherStatus}
use Rattle.run_log.specs.declared.facts.RefusedStart.{RefusedStart}
use Rattle.run_log.specs.declared.facts.RunEnd.{RunEnd}

-- ---- pieces

-- the token that a piece is
abbrev pub token_in : Piece → Token
token_in pieces.Open = begin_object
token_in pieces.Close = end_object
token_in pieces.OpenList = begin_array
token_in pieces.CloseList = end_array
token_in (pieces.Key name) = key name.now
token_in (pieces.Text text) = string text.now
token_in (pieces.Count count) = number (decimal count)
token_in (pieces.Flag flag) = boolean flag
token_in pieces.Null = null

abbrev pub tokens_in : List Piece → List Token
tokens_in ps = map token_in ps

-- ---- values that may be absent

abbrev pub count_token : Option ℕ → Token
count_token None = null
count_token (Some count) = number (decimal count)

abbrev pub text_token : Option (Bor (List ℕ)) → Token
text_token None = null
text_token (Some text) = string text.now

abbrev pub flag_token : Option Bool → Token
flag_token None = null
flag_token (Some flag) = boolean flag

-- ---- names

abbrev pub demand_text : DemandKind → List ℕ
demand_text kinds.Load = codes "load"
demand_text kinds.Start = codes "start"
demand_text kinds.Kickstart = codes "kickstart"
demand_text kinds.Interval = codes "interval"
demand_text kinds.Calendar = codes "calendar"
demand_text kinds.Path = codes "path"

abbrev pub demand_token : Option DemandKind → Token
demand_token None = null
demand_token (Some kind) = string (demand_text kind)

abbrev pub order_text : Act → List ℕ
order_text (Spawn run conn) = codes "spawn"
order_text (Term run) = codes "term"
order_text (Kill run) = codes "kill"
order_text (Close conn) = codes "close"
order_text Gone = codes "gone"

abbrev pub disabled_text : DisabledBy → List ℕ
disabled_text Definition = codes "definition"
disabled_text Override = codes "override"

abbrev pub disabled_token : Option DisabledBy → Token
disabled_token None = null
disabled_token (Some by) = string (disabled_text by)

-- ---- clock readings

abbrev pub reading_tokens : Reading → List Token
reading_tokens at =
    begin_object ∷ key (codes "up") ∷ number (decimal at.up)
    ∷ key (codes "wall") ∷ number (decimal at.wall) ∷ end_object ∷ []

-- a clock reading under its key, null if there is none
abbrev pub moment_tokens : List ℕ → Option Reading → List Token
moment_tokens name None = key name ∷ null ∷ []
moment_tokens name (Some at) = key name ∷ reading_tokens at

-- ---- the line of the launcher

-- its version, its process, and the header of a journal of it
abbrev pub process_tokens : LauncherStatus → List Token
process_tokens l =
    begin_object ∷ key (codes "launcher") ∷ begin_object
    ∷ key (codes "version") ∷ string l.version.now
    ∷ key (codes "pid") ∷ number (decimal l.pid)
    ∷ key (codes "began") ∷ number (decimal l.began)
    ∷ key (codes "header") ∷ string l.header.now ∷ []

-- the state of its journal, and why it is closed
abbrev pub journal_tokens : JournalStatus → List Token
journal_tokens journals.None = key (codes "journal") ∷ string (codes "none") ∷ key (codes "journal_reason") ∷ null ∷ []
journal_tokens journals.Open = key (codes "journal") ∷ string (codes "open") ∷ key (codes "journal_reason") ∷ null ∷ []
journal_tokens (journals.Closed reason) = key (codes "journal") ∷ string (codes "closed") ∷ key (codes "journal_reason") ∷ string reason.now ∷ []

-- what the store refused last, its counts, and whether it is shutting down
abbrev pub tallies_tokens : LauncherStatus → List Token
tallies_tokens l =
    key (codes "store") ∷ text_token l.store
    ∷ key (codes "renewed_each") ∷ count_token l.renewed_each
    ∷ key (codes "failed_calls") ∷ count_token l.failed_calls
    ∷ key (codes "shutting_down") ∷ flag_token l.is_shutting_down
    ∷ key (codes "jobs") ∷ number (decimal l.jobs)
    ∷ end_object ∷ end_object ∷ []

-- a load that was refused, since a socket could not be bound
abbrev pub bind_front_tokens : BindStatus → List Token
bind_front_tokens b =
    begin_object ∷ key (codes "label") ∷ string b.label.now ∷ key (codes "reason") ∷ string b.reason.now ∷ []

abbrev pub bind_tokens : BindStatus → List Token
bind_tokens b = bind_front_tokens b ++ (moment_tokens (codes "at") (Some b.at) ++ end_object ∷ [])

-- all of them
abbrev pub binds_tokens : List BindStatus → List Token
binds_tokens binds =
    (key (codes "refused_binds") ∷ begin_array ∷ []) ++ (flat_map bind_tokens binds ++ end_array ∷ [])

abbrev pub launcher_tokens : LauncherStatus → List BindStatus → List Token
launcher_tokens l binds =
    process_tokens l ++ (moment_tokens (codes "at") (Some l.at)
    ++ (journal_tokens l.journal ++ (binds_tokens binds ++ tallies_tokens l)))

-- ---- what the table says

abbrev pub child_pid : Option StandingChild → Option ℕ
child_pid None = None
child_pid (Some child) = Some child.pid

-- the run of an order, and its connection
abbrev pub order_run : Act → Option ℕ
order_run (Spawn run conn) = Some run
order_run (Term run) = Some run
order_run (Kill run) = Some run
order_run (Close conn) = None
order_run Gone = None

abbrev pub order_conn : Act → Option ℕ
order_conn (Spawn run conn) = conn
order_conn (Term run) = None
order_conn (Kill run) = None
order_conn (Close conn) = Some conn
order_conn Gone = None

abbrev pub child_tokens : Option StandingChild → List Token
child_tokens None = key (codes "child") ∷ null ∷ []
child_tokens (Some child) =
    key (codes "child") ∷ begin_object
    ∷ key (codes "run") ∷ number (decimal child.run)
    ∷ key (codes "pid") ∷ number (decimal child.pid)
    ∷ key (codes "stopped") ∷ boolean child.is_stopped
    ∷ key (codes "struck") ∷ boolean child.is_struck
    ∷ end_object ∷ []

abbrev pub awaited_tokens : Option Act → List Token
awaited_tokens None = key (codes "awaited") ∷ null ∷ []
awaited_tokens (Some act) =
    key (codes "awaited") ∷ begin_object
    ∷ key (codes "order") ∷ string (order_text act)
    ∷ key (codes "run") ∷ count_token (order_run act)
    ∷ key (codes "conn") ∷ count_token (order_conn act)
    ∷ end_object ∷ []

abbrev pub wants_tokens : Wants → List Token
wants_tokens w =
    key (codes "wants") ∷ begin_object
    ∷ key (codes "demand") ∷ boolean w.demand
    ∷ key (codes "connections") ∷ number (decimal w.connections)
    ∷ key (codes "keep_alive") ∷ boolean w.keep_alive
    ∷ key (codes "successful_exit") ∷ boolean w.successful_exit
    ∷ key (codes "crashed") ∷ boolean w.crashed
    ∷ key (codes "path_state") ∷ boolean w.path_state
    ∷ key (codes "queue_directories") ∷ boolean w.queue_directories
    ∷ end_object ∷ []

-- what keeps it from a start, but for its child and an order whose answer is awaited
abbrev pub held_tokens : Reasons → List Token
held_tokens r =
    key (codes "reasons") ∷ begin_object
    ∷ key (codes "removing") ∷ boolean r.is_removing
    ∷ key (codes "throttled_until") ∷ count_token r.throttled_until
    ∷ key (codes "launch_spent") ∷ boolean r.is_launch_spent
    ∷ key (codes "runs_spent") ∷ boolean r.are_runs_spent ∷ []

-- all its reasons
abbrev pub reasons_tokens : Reasons → List Token
reasons_tokens r =
    held_tokens r
    ++ (child_tokens r.child ++ (awaited_tokens r.awaited ++ (wants_tokens r.wants ++ end_object ∷ [])))

-- when its next orders are due
abbrev pub times_tokens : Moments → Option ℕ → List Token
times_tokens m spawn =
    key (codes "moments") ∷ begin_object
    ∷ key (codes "term") ∷ count_token m.term
    ∷ key (codes "kill") ∷ count_token m.kill
    ∷ key (codes "interval") ∷ count_token m.interval
    ∷ key (codes "spawn") ∷ count_token spawn
    ∷ end_object ∷ []

-- what made its start request, and which path holds it wanted
abbrev pub wanted_tokens : Option DemandKind → Option (Bor (List ℕ)) → List Token
wanted_tokens demand path =
    key (codes "demand") ∷ demand_token demand ∷ key (codes "path") ∷ text_token path ∷ []

abbrev pub moments_tokens : JobFacts → List Token
moments_tokens f = times_tokens f.moments f.spawns_from ++ wanted_tokens f.demand f.path

-- ---- what is kept next to the table

abbrev pub name_tokens : List ℕ → JobState → List Token
name_tokens label state =
    begin_object ∷ key (codes "job") ∷ begin_object
    ∷ key (codes "label") ∷ string label
    ∷ key (codes "state") ∷ string (state_text state) ∷ []

abbrev pub counts_tokens : Option ℕ → ℕ → ℕ → ℕ → ℕ → ℕ → List Token
counts_tokens pid run starts failures refusals connections =
    key (codes "pid") ∷ count_token pid
    ∷ key (codes "run") ∷ number (decimal run)
    ∷ key (codes "starts") ∷ number (decimal starts)
    ∷ key (codes "failures") ∷ number (decimal failures)
    ∷ key (codes "refusals") ∷ number (decimal refusals)
    ∷ key (codes "connections") ∷ number (decimal connections) ∷ []

abbrev pub loaded_tokens : Option DisabledBy → Option (Bor (List ℕ)) → List Token
loaded_tokens by definition =
    key (codes "disabled") ∷ disabled_token by ∷ key (codes "definition") ∷ text_token definition ∷ []

abbrev pub front_tokens : JobStatus → List Token
front_tokens j =
    name_tokens j.label.now (state_by_reasons j.facts.reasons)
    ++ (counts_tokens (child_pid j.facts.reasons.child) j.note.run j.note.starts j.note.unsuccessful j.note.refusals
    j.facts.reasons.wants.connections
    ++ loaded_tokens j.disabled j.note.definition)

abbrev pub end_key : Ended → List ℕ
end_key (Code code) = codes "code"
end_key (Signal signal) = codes "signal"

abbrev pub end_number : Ended → ℕ
end_number (Code code) = code
end_number (Signal signal) = signal

abbrev pub end_front_tokens : RunEnd → List Token
end_front_tokens end =
    key (codes "last_end") ∷ begin_object
    ∷ key (codes "run") ∷ number (decimal end.run)
    ∷ key (end_key end.how) ∷ number (decimal (end_number end.how))
    ∷ key (codes "ordered") ∷ flag_token end.ordered ∷ []

abbrev pub run_end_tokens : RunEnd → List Token
run_end_tokens end =
    end_front_tokens end
    ++ (moment_tokens (codes "began") (Some end.began)
    ++ (moment_tokens (codes "ended") (Some end.ended) ++ end_object ∷ []))

abbrev pub end_tokens : Option RunEnd → List Token
end_tokens None = key (codes "last_end") ∷ null ∷ []
end_tokens (Some end) = run_end_tokens end

abbrev pub start_front_tokens : ℕ → Option (Bor (List ℕ)) → List Token
start_front_tokens run reason =
    key (codes "refused") ∷ begin_object
    ∷ key (codes "run") ∷ number (decimal run)
    ∷ key (codes "reason") ∷ text_token reason ∷ []

abbrev pub start_tokens : RefusedStart → List Token
start_tokens start =
    start_front_tokens start.run start.reason
    ++ (moment_tokens (codes "at") (Some start.at) ++ end_object ∷ [])

abbrev pub refused_tokens : Option RefusedStart → List Token
refused_tokens None = key (codes "refused") ∷ null ∷ []
refused_tokens (Some start) = start_tokens start

-- what was heard of its runs
abbrev pub note_tokens : JobNote → List Token
note_tokens n =
    moment_tokens (codes "since") (Some n.since)
    ++ (moment_tokens (codes "started") n.started
    ++ (moment_tokens (codes "term") n.term
    ++ (moment_tokens (codes "kill") n.kill
    ++ (end_tokens n.last_end
    ++ (refused_tokens n.refused
    ++ (moment_tokens (codes "succeeded") n.succeeded ++ moment_tokens (codes "disabled_at") n.disabled_at))))))

-- ---- what the definition says

abbrev pub conditions_tokens : JobKeys → List Token
conditions_tokens k =
    key (codes "keys") ∷ begin_object
    ∷ key (codes "run_at_load") ∷ boolean k.run_at_load
    ∷ key (codes "successful_exit") ∷ flag_token k.successful_exit
    ∷ key (codes "crashed") ∷ flag_token k.crashed
    ∷ key (codes "path_state") ∷ number (decimal k.path_state.count)
    ∷ key (codes "first_condition") ∷ text_token k.path_state.first
    ∷ key (codes "first_exists") ∷ flag_token k.first_exists
    ∷ key (codes "path_exists") ∷ flag_token k.path_exists ∷ []

abbrev pub limits_tokens : JobKeys → List Token
limits_tokens k =
    key (codes "start_interval") ∷ count_token k.start_interval
    ∷ key (codes "throttle_interval") ∷ number (decimal k.throttle_interval)
    ∷ key (codes "exit_time_out") ∷ number (decimal k.exit_time_out) ∷ []

abbrev pub others_tokens : JobKeys → List Token
others_tokens k =
    key (codes "watch_paths") ∷ number (decimal k.watch_paths.count)
    ∷ key (codes "first_watched") ∷ text_token k.watch_paths.first
    ∷ key (codes "queue_directories") ∷ number (decimal k.queue_directories.count)
    ∷ key (codes "first_queue") ∷ text_token k.queue_directories.first
    ∷ key (codes "sockets") ∷ boolean k.has_sockets
    ∷ key (codes "errors") ∷ text_token k.errors
    ∷ end_object ∷ []

abbrev pub keys_tokens : JobKeys → List Token
keys_tokens k = conditions_tokens k ++ (limits_tokens k ++ others_tokens k)

-- an entry of its calendar: minute, hour, day, weekday, month, null for a key that is absent
abbrev pub entry_tokens : Entry → List Token
entry_tokens e =
    begin_array ∷ count_token e.minute ∷ count_token e.hour ∷ count_token e.day
    ∷ count_token e.weekday ∷ count_token e.month ∷ end_array ∷ []

abbrev pub calendar_tokens : List Entry → List Token
calendar_tokens entries =
    (key (codes "calendar") ∷ begin_array ∷ [])
    ++ (flat_map entry_tokens entries ++ (end_array ∷ end_object ∷ end_object ∷ []))

-- ---- the line of a job

abbrev pub job_tokens : JobStatus → List Entry → List Token
job_tokens j entries =
    front_tokens j
    ++ (note_tokens j.note
    ++ (reasons_tokens j.facts.reasons
    ++ (moments_tokens j.facts
    ++ (keys_tokens j.keys ++ calendar_tokens entries))))
