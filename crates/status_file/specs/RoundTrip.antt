-- What is read of the line of a job is what was written.
use Rattle.std.specs.Prelude.{◌≡◌, ℕ, List, Option, Some, None, codes, true, ⊤}
use Rattle.std.specs.Borrow.{Bor}
use Rattle.std.specs.Option.{option_map}
use Rattle.history_model.specs.declared.Entry.{Entry}
use Rattle.json.specs.Print.{print}
use Rattle.json_kinds.specs.Json.{json_in}
use Rattle.run_log.specs.declared.facts.RefusedStart.{RefusedStart}
use Rattle.status_file.specs.Jobs.{JobLine}
use Rattle.status_file.specs.Readings.{CalendarAt, JobAt}
use Rattle.status_file.specs.Reads.{value_at}
use Rattle.status_file.specs.Tokens.{job_tokens}
use Rattle.status_file.specs.Values.{line_value, sorted}
use Rattle.status_file.specs.declared.facts.JobFacts.{JobFacts}
use Rattle.status_file.specs.declared.status.JobKeys.{JobKeys}
use Rattle.status_file.specs.declared.status.JobNote.{JobNote}
use Rattle.status_file.specs.declared.status.JobStatus.{JobStatus}
use Rattle.status_file.specs.declared.status.KeyPaths.{KeyPaths}

-- ---- the same job: the same bytes in each text, and all else equal

abbrev pub bytes_of : Option (Bor (List ℕ)) → Option (List ℕ)
bytes_of text = option_map (λ t. t.now) text

pub record SamePaths (a b : KeyPaths) : Type 0 where
  pub count : b.count ≡ a.count
  pub first : bytes_of b.first ≡ bytes_of a.first

pub record SameFacts (a b : JobFacts) : Type 0 where
  pub reasons : b.reasons ≡ a.reasons
  pub moments : b.moments ≡ a.moments
  pub spawns_from : b.spawns_from ≡ a.spawns_from
  pub demand : b.demand ≡ a.demand
  pub path : bytes_of b.path ≡ bytes_of a.path

-- both none, or both the same refused start
abbrev pub SameRefusal : Option RefusedStart → Option RefusedStart → Type 0
SameRefusal None None = ⊤
SameRefusal None (Some b) = ⊥
SameRefusal (Some a) None = ⊥
SameRefusal (Some a) (Some b) = (b.run ≡ a.run) × (bytes_of b.reason ≡ bytes_of a.reason) × (b.at ≡ a.at)

pub record SameNote (a b : JobNote) : Type 0 where
  pub since : b.since ≡ a.since
  pub run : b.run ≡ a.run
  pub starts : b.starts ≡ a.starts
  pub unsuccessful : b.unsuccessful ≡ a.unsuccessful
  pub refusals : b.refusals ≡ a.refusals
  pub started : b.started ≡ a.started
  pub term : b.term ≡ a.term
  pub kill : b.kill ≡ a.kill
  pub last_end : b.last_end ≡ a.last_end
  pub succeeded : b.succeeded ≡ a.succeeded
  pub refused : SameRefusal a.refused b.refused
  pub definition : bytes_of b.definition ≡ bytes_of a.definition
  pub disabled_at : b.disabled_at ≡ a.disabled_at

pub record SameKeys (a b : JobKeys) : Type 0 where
  pub run_at_load : b.run_at_load ≡ a.run_at_load
  pub successful_exit : b.successful_exit ≡ a.successful_exit
  pub crashed : b.crashed ≡ a.crashed
  pub path_state : SamePaths a.path_state b.path_state
  pub first_exists : b.first_exists ≡ a.first_exists
  pub path_exists : b.path_exists ≡ a.path_exists
  pub start_interval : b.start_interval ≡ a.start_interval
  pub throttle_interval : b.throttle_interval ≡ a.throttle_interval
  pub exit_time_out : b.exit_time_out ≡ a.exit_time_out
  pub watch_paths : SamePaths a.watch_paths b.watch_paths
  pub queue_directories : SamePaths a.queue_directories b.queue_directories
  pub has_sockets : b.has_sockets ≡ a.has_sockets
  pub errors : bytes_of b.errors ≡ bytes_of a.errors
  pub knows_errors : b.knows_errors ≡ true

pub record SameJob (a b : JobStatus) : Type 0 where
  pub label : b.label.now ≡ a.label.now
  pub facts : SameFacts a.facts b.facts
  pub note : SameNote a.note b.note
  pub keys : SameKeys a.keys b.keys
  pub disabled : b.disabled ≡ a.disabled

-- ---- the law

-- the text of a line, without its newline
abbrev pub bytes_written : JobLine → List ℕ
bytes_written line = print (job_tokens line.job line.calendar)

-- The line is a JSON text. What the reader promises of a job, holds of its job, and of no other; and so it does of its calendar.
pub record IsReadBack (line : JobLine) : Type 0 where
  pub value : json_in (bytes_written line) ≡ Some (sorted (line_value line))
  pub there : JobAt (value_at (codes "job") (Some (sorted (line_value line)))) line.job
  pub only : (read : JobStatus) → JobAt (value_at (codes "job") (Some (sorted (line_value line)))) read → SameJob line.job read
  pub calendar_there : CalendarAt (value_at (codes "job") (Some (sorted (line_value line)))) line.calendar
  pub calendar_only : (read : List Entry) → CalendarAt (value_at (codes "job") (Some (sorted (line_value line)))) read → read ≡ line.calendar
