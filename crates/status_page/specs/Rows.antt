-- What the table of `status` says of a job.
use Rattle.std.specs.List.{list_any}
use Rattle.std.specs.Option.{option_map}
use Rattle.std.specs.Prelude.{◌≡◌, ◌⊎◌, ℕ, Bool, true, false, List, [], ◌∷◌, ◌++◌, codes, cond, length, not, nat_lt, ◌==◌, ◌||◌, Option, Some, None, is_some, if◌then◌else◌}
use Rattle.history_model.specs.declared.Ended.{Ended}
use Rattle.history_model.specs.declared.Entry.{Entry}
use Rattle.history_model.specs.declared.Reading.{Reading}
use Rattle.history_model.specs.declared.reasons.Reasons.{Reasons}
use Rattle.history_model.specs.Calendar.{Zone}
use Rattle.history_model.specs.Items.{History}
use Rattle.history_model.specs.Search.{is_same_text}
use Rattle.history_model.specs.NextRun.{looked_ahead}
use Rattle.history_model.specs.Texts.{state_text}
use Rattle.run_times.specs.declared.writer.TextWriter.{TextWriter}
use Rattle.run_times.specs.Told.{IsTold}
use Rattle.run_times.specs.Written.{Adds}
use Rattle.status_file.specs.declared.facts.JobFacts.{JobFacts}
use Rattle.status_file.specs.declared.status.JobKeys.{JobKeys}
use Rattle.status_file.specs.declared.status.JobNote.{JobNote}
use Rattle.status_file.specs.declared.status.JobStatus.{JobStatus}
use Rattle.run_log.specs.declared.facts.RefusedStart.{RefusedStart}
use Rattle.run_log.specs.declared.facts.RunEnd.{RunEnd}
use Rattle.status_file.specs.States.{state_by_reasons}
use Rattle.status_page.specs.declared.clocks.StartWhen.{StartWhen}
use Rattle.status_page.specs.declared.clocks.StartWhen.TheVariants as starts
use Rattle.status_page.specs.declared.clocks.TheConstants.{FARTHEST}
use Rattle.status_page.specs.declared.rows.Next.{Next}
use Rattle.status_page.specs.declared.rows.Next.TheVariants.{Nothing, Clock, Event}
use Rattle.status_page.specs.declared.rows.StatusRow.{StatusRow}
use Rattle.status_page.specs.declared.rows.ShownState.{ShownState}
use Rattle.status_page.specs.declared.rows.ShownState.TheVariants.{Is, Unknown}
use Rattle.status_page.specs.declared.throttles.ThrottleEnd.{ThrottleEnd}
use Rattle.status_page.specs.Clocks.{StartsSo, can_start}
use Rattle.status_page.specs.Throttles.{EndsSo, throttled_by}

-- the label is one of those that are named, or none is
abbrev pub is_asked : List (List ℕ) → List ℕ → Bool
is_asked labels label = (length labels == 0) || list_any (is_same_text label) labels

-- the state of a job by its facts; if its launcher has exited, it is unknown
abbrev pub state_shown : Bool → Reasons → ShownState
state_shown true r = Is (state_by_reasons r)
state_shown false r = Unknown

-- the process of its run; none, if its launcher has exited
abbrev pub process_shown : Bool → Reasons → Option ℕ
process_shown true r = option_map (λ child. child.pid) r.child
process_shown false r = None

-- how its last run ended
abbrev pub last_shown : Option RunEnd → Option Ended
last_shown end = option_map (λ it. it.how) end

-- when its last start was refused, if that was
abbrev pub refused_at : ℕ → Option RefusedStart → Option Reading
refused_at run None = None
refused_at run (Some start) = cond (start.run == run) (Some start.at) None

abbrev pub last_refused : JobNote → Option Reading
last_refused n = refused_at n.run n.refused

-- when a job is no longer throttled, by its last start and its last refused one; none, if it is not
-- throttled
abbrev pub EndsThrottle : JobStatus → Reading → Option ThrottleEnd → Type 0
EndsThrottle j at None = j.facts.reasons.throttled_until ≡ None
EndsThrottle j at (Some end) =
    (until : ℕ) × (j.facts.reasons.throttled_until ≡ Some until)
    × EndsSo (throttled_by j.note.started (last_refused j.note) j.keys.throttle_interval until) until at end

-- when time alone starts it, for each past of which these are the facts
abbrev pub StartsBy : Zone → JobFacts → List Entry → Reading → ℕ → StartWhen → Type 0
StartsBy zone f entries at now when =
    (past : History) → IsTold f.reasons f.spawns_from entries at past →
    StartsSo zone past (looked_ahead at FARTHEST) at now when

-- what comes next of it: nothing, if its launcher has exited or it has a run; a start by the clocks;
-- or an event, if the clocks never start it
abbrev pub TellsNext : Bool → Zone → JobFacts → List Entry → Reading → ℕ → Next → Type 0
TellsNext lives zone f entries at now Nothing = (lives ≡ false) ⊎ (is_some f.reasons.child ≡ true)
TellsNext lives zone f entries at now (Clock when) =
    (lives ≡ true) × (is_some f.reasons.child ≡ false) × StartsBy zone f entries at now when
TellsNext lives zone f entries at now (Event words) =
    (lives ≡ true) × (is_some f.reasons.child ≡ false) × StartsBy zone f entries at now starts.Never

-- what a job waits for that the clocks start in none of the days that are looked at
abbrev pub event_text : Reasons → JobKeys → Bool → List ℕ
event_text r k has_calendar =
    if not (can_start r) then codes "a load"
    else (if is_some r.awaited then codes "an answer"
    else (if nat_lt 0 k.path_state.count || nat_lt 0 k.watch_paths.count then codes "a path"
    else (if nat_lt 0 k.queue_directories.count then codes "a file"
    else (if k.has_sockets then codes "a client"
    else (if has_calendar then codes "its calendar" else codes "a request")))))

-- what is shown of it names that; a job without a calendar never waits for one
abbrev pub NamesEvent : Reasons → JobKeys → List Entry → Next → Type 0
NamesEvent r k entries Nothing = Unit {0}
NamesEvent r k entries (Clock when) = Unit {0}
NamesEvent r k entries (Event words) = words.now ≡ event_text r k (not (length entries == 0))

-- the name of a state
abbrev pub state_word : ShownState → List ℕ
state_word (Is state) = state_text state
state_word Unknown = codes "unknown"

-- a line for each of the rows, in order: something of its label, the name of its state, and more
abbrev pub AreRows : List StatusRow → List ℕ → Type 0
AreRows [] text = text ≡ []
AreRows (row ∷ rows) text =
    (front : List ℕ) × (more : List ℕ) × (others : List ℕ) × AreRows rows others
    × (text ≡ front ++ (state_word row.state ++ (more ++ 10 ∷ others)))

-- they follow what was written before
abbrev pub TellsRows : List StatusRow → TextWriter → TextWriter → Type 0
TellsRows rows old new = (text : List ℕ) × AreRows rows text × Adds text old new
