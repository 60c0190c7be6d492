-- The JSON value that the line of a job is, each member in the order in which it is written.
use Rattle.std.specs.Prelude.{ℕ, ◌<◌, ◌^◌, List, [], ◌∷◌, map, Bool, Option, Some, None, codes, IsUtf8, ⊤}
use Rattle.std.specs.Borrow.{Bor}
use Rattle.history_model.specs.Texts.{state_text}
use Rattle.history_model.specs.declared.Act.{Act}
use Rattle.history_model.specs.declared.Ended.{Ended}
use Rattle.history_model.specs.declared.Entry.{Entry}
use Rattle.history_model.specs.declared.Reading.{Reading}
use Rattle.history_model.specs.declared.reasons.DemandKind.{DemandKind}
use Rattle.history_model.specs.declared.reasons.Reasons.{Reasons}
use Rattle.history_model.specs.declared.reasons.StandingChild.{StandingChild}
use Rattle.history_model.specs.declared.reasons.Wants.{Wants}
use Rattle.job_core.specs.declared.job.moments.Moments.{Moments}
use Rattle.run_log.specs.declared.facts.RefusedStart.{RefusedStart}
use Rattle.run_log.specs.declared.facts.RunEnd.{RunEnd}
use Rattle.serde_json.specs.Data.{Data, Items, Members, Num, array, boolean, float, item, member, negative, no_items, no_members, null, number, object, put, string, unsigned}
use Rattle.serde_json.specs.View.{items_of}
use Rattle.status_file.specs.Jobs.{JobLine}
use Rattle.status_file.specs.States.{state_by_reasons}
use Rattle.status_file.specs.Tokens.{child_pid, demand_text, disabled_text, end_key, end_number, order_conn, order_run, order_text}
use Rattle.status_file.specs.declared.status.DisabledBy.{DisabledBy}
use Rattle.status_file.specs.declared.status.JobKeys.{JobKeys}
use Rattle.status_file.specs.declared.status.JobStatus.{JobStatus}

-- a key, and the value under it
abbrev pub Member : Type 0
Member = List ℕ × Data

abbrev pub in_order : List Member → Members
in_order [] = no_members
in_order (one ∷ more) = member one.0 one.1 (in_order more)

abbrev pub object_with : List Member → Data
object_with members = object (in_order members)

-- ---- values, some of which may be null

abbrev pub count_value : ℕ → Data
count_value count = number (unsigned count)

abbrev pub count_or_null : Option ℕ → Data
count_or_null None = null
count_or_null (Some count) = count_value count

abbrev pub text_or_null : Option (Bor (List ℕ)) → Data
text_or_null None = null
text_or_null (Some text) = string text.now

abbrev pub flag_or_null : Option Bool → Data
flag_or_null None = null
flag_or_null (Some flag) = boolean flag

abbrev pub demand_or_null : Option DemandKind → Data
demand_or_null None = null
demand_or_null (Some kind) = string (demand_text kind)

abbrev pub disabled_or_null : Option DisabledBy → Data
disabled_or_null None = null
disabled_or_null (Some by) = string (disabled_text by)

abbrev pub reading_value : Reading → Data
reading_value at = object_with ((codes "up", count_value at.up) ∷ (codes "wall", count_value at.wall) ∷ [])

abbrev pub reading_or_null : Option Reading → Data
reading_or_null None = null
reading_or_null (Some at) = reading_value at

-- ---- what the table says

abbrev pub child_or_null : Option StandingChild → Data
child_or_null None = null
child_or_null (Some child) =
    object_with ((codes "run", count_value child.run)
    ∷ (codes "pid", count_value child.pid)
    ∷ (codes "stopped", boolean child.is_stopped)
    ∷ (codes "struck", boolean child.is_struck) ∷ [])

abbrev pub awaited_or_null : Option Act → Data
awaited_or_null None = null
awaited_or_null (Some act) =
    object_with ((codes "order", string (order_text act))
    ∷ (codes "run", count_or_null (order_run act))
    ∷ (codes "conn", count_or_null (order_conn act)) ∷ [])

abbrev pub wants_value : Wants → Data
wants_value w =
    object_with ((codes "demand", boolean w.demand)
    ∷ (codes "connections", count_value w.connections)
    ∷ (codes "keep_alive", boolean w.keep_alive)
    ∷ (codes "successful_exit", boolean w.successful_exit)
    ∷ (codes "crashed", boolean w.crashed)
    ∷ (codes "path_state", boolean w.path_state)
    ∷ (codes "queue_directories", boolean w.queue_directories) ∷ [])

abbrev pub reasons_members : Reasons → List Member
reasons_members r =
    (codes "removing", boolean r.is_removing)
    ∷ (codes "throttled_until", count_or_null r.throttled_until)
    ∷ (codes "launch_spent", boolean r.is_launch_spent)
    ∷ (codes "runs_spent", boolean r.are_runs_spent)
    ∷ (codes "child", child_or_null r.child)
    ∷ (codes "awaited", awaited_or_null r.awaited)
    ∷ (codes "wants", wants_value r.wants) ∷ []

abbrev pub reasons_value : Reasons → Data
reasons_value r = object_with (reasons_members r)

abbrev pub moments_value : Moments → Option ℕ → Data
moments_value m spawn =
    object_with ((codes "term", count_or_null m.term)
    ∷ (codes "kill", count_or_null m.kill)
    ∷ (codes "interval", count_or_null m.interval)
    ∷ (codes "spawn", count_or_null spawn) ∷ [])

-- ---- what was heard of its runs

abbrev pub end_or_null : Option RunEnd → Data
end_or_null None = null
end_or_null (Some end) =
    object_with ((codes "run", count_value end.run)
    ∷ (end_key end.how, count_value (end_number end.how))
    ∷ (codes "ordered", flag_or_null end.ordered)
    ∷ (codes "began", reading_value end.began)
    ∷ (codes "ended", reading_value end.ended) ∷ [])

abbrev pub refused_or_null : Option RefusedStart → Data
refused_or_null None = null
refused_or_null (Some start) =
    object_with ((codes "run", count_value start.run)
    ∷ (codes "reason", text_or_null start.reason)
    ∷ (codes "at", reading_value start.at) ∷ [])

-- ---- what the definition says

abbrev pub keys_value : JobKeys → Data
keys_value k =
    object_with ((codes "run_at_load", boolean k.run_at_load)
    ∷ (codes "successful_exit", flag_or_null k.successful_exit)
    ∷ (codes "crashed", flag_or_null k.crashed)
    ∷ (codes "path_state", count_value k.path_state.count)
    ∷ (codes "first_condition", text_or_null k.path_state.first)
    ∷ (codes "first_exists", flag_or_null k.first_exists)
    ∷ (codes "path_exists", flag_or_null k.path_exists)
    ∷ (codes "start_interval", count_or_null k.start_interval)
    ∷ (codes "throttle_interval", count_value k.throttle_interval)
    ∷ (codes "exit_time_out", count_value k.exit_time_out)
    ∷ (codes "watch_paths", count_value k.watch_paths.count)
    ∷ (codes "first_watched", text_or_null k.watch_paths.first)
    ∷ (codes "queue_directories", count_value k.queue_directories.count)
    ∷ (codes "first_queue", text_or_null k.queue_directories.first)
    ∷ (codes "sockets", boolean k.has_sockets)
    ∷ (codes "errors", text_or_null k.errors) ∷ [])

abbrev pub entry_value : Entry → Data
entry_value e =
    array (items_of (count_or_null e.minute ∷ count_or_null e.hour ∷ count_or_null e.day
    ∷ count_or_null e.weekday ∷ count_or_null e.month ∷ []))

-- ---- the line

abbrev pub job_members : JobStatus → List Entry → List Member
job_members j entries =
    (codes "label", string j.label.now)
    ∷ (codes "state", string (state_text (state_by_reasons j.facts.reasons)))
    ∷ (codes "pid", count_or_null (child_pid j.facts.reasons.child))
    ∷ (codes "run", count_value j.note.run)
    ∷ (codes "starts", count_value j.note.starts)
    ∷ (codes "failures", count_value j.note.unsuccessful)
    ∷ (codes "refusals", count_value j.note.refusals)
    ∷ (codes "connections", count_value j.facts.reasons.wants.connections)
    ∷ (codes "disabled", disabled_or_null j.disabled)
    ∷ (codes "definition", text_or_null j.note.definition)
    ∷ (codes "since", reading_value j.note.since)
    ∷ (codes "started", reading_or_null j.note.started)
    ∷ (codes "term", reading_or_null j.note.term)
    ∷ (codes "kill", reading_or_null j.note.kill)
    ∷ (codes "last_end", end_or_null j.note.last_end)
    ∷ (codes "refused", refused_or_null j.note.refused)
    ∷ (codes "succeeded", reading_or_null j.note.succeeded)
    ∷ (codes "disabled_at", reading_or_null j.note.disabled_at)
    ∷ (codes "reasons", reasons_value j.facts.reasons)
    ∷ (codes "moments", moments_value j.facts.moments j.facts.spawns_from)
    ∷ (codes "demand", demand_or_null j.facts.demand)
    ∷ (codes "path", text_or_null j.facts.path)
    ∷ (codes "keys", keys_value j.keys)
    ∷ (codes "calendar", array (items_of (map entry_value entries))) ∷ []

abbrev pub line_value : JobLine → Data
line_value line = object_with ((codes "job", object_with (job_members line.job line.calendar)) ∷ [])

-- ---- the same, as a reader has it

-- each object has its members by the bytes of their keys
abbrev mutual
  pub sorted : Data → Data
  sorted null = null
  sorted (boolean b) = boolean b
  sorted (number n) = number n
  sorted (string s) = string s
  sorted (array ds) = array (sorted_items ds)
  sorted (object ms) = object (sorted_onto ms no_members)

  pub sorted_items : Items → Items
  sorted_items no_items = no_items
  sorted_items (item d ds) = item (sorted d) (sorted_items ds)

  pub sorted_onto : Members → Members → Members
  sorted_onto no_members found = found
  sorted_onto (member k d ms) found = sorted_onto ms (put k (sorted d) found)

-- ---- what the types of a line ensure

abbrev pub IsFitNumber : Num → Type 0
IsFitNumber (unsigned n) = n < 2 ^ 64
IsFitNumber (negative z) = ⊥
IsFitNumber (float x) = ⊥

-- each number has 64 bits, and each text is UTF-8
abbrev mutual
  pub IsFit : Data → Type 0
  IsFit null = ⊤
  IsFit (boolean b) = ⊤
  IsFit (number n) = IsFitNumber n
  IsFit (string s) = IsUtf8 s
  IsFit (array ds) = AreFitItems ds
  IsFit (object ms) = AreFitMembers ms

  pub AreFitItems : Items → Type 0
  AreFitItems no_items = ⊤
  AreFitItems (item d ds) = IsFit d × AreFitItems ds

  pub AreFitMembers : Members → Type 0
  AreFitMembers no_members = ⊤
  AreFitMembers (member k d ms) = IsUtf8 k × IsFit d × AreFitMembers ms
