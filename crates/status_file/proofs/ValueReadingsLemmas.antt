-- The value of a line has each field of its job as the reader takes it.
use Rattle.std.proofs.Common.{◌≡◌, ℕ, suc, true, max, ◌≤◌, List, [], ◌∷◌, Bool, Some, None, Option, map, codes, option_and_then, refl, sym, ap, ◌∙◌, arith}
use Rattle.std.specs.Borrow.{Bor}
use Rattle.std.specs.List.{AllByRecursion, AllZip}
use Rattle.std.specs.Prelude.{⊤, is_some, unwrap_or}
use Rattle.history_model.specs.declared.Act.{Act}
use Rattle.history_model.specs.declared.Act.TheVariants.{Spawn, Term, Kill, Close, Gone}
use Rattle.history_model.specs.declared.Ended.{Ended}
use Rattle.history_model.specs.declared.Ended.TheVariants.{Code, Signal}
use Rattle.history_model.specs.declared.Entry.{Entry}
use Rattle.history_model.specs.declared.Reading.{Reading}
use Rattle.history_model.specs.declared.reasons.DemandKind.{DemandKind}
use Rattle.history_model.specs.declared.reasons.Reasons.{Reasons}
use Rattle.history_model.specs.declared.reasons.StandingChild.{StandingChild}
use Rattle.job_core.specs.declared.job.moments.Moments.{Moments}
use Rattle.run_log.specs.declared.facts.RefusedStart.{RefusedStart}
use Rattle.run_log.specs.declared.facts.RunEnd.{RunEnd}
use Rattle.serde_json.specs.Data.{Data, array, depth, item, items_depth, members_depth}
use Rattle.serde_json.specs.Find.{as_bool, as_number, as_str, as_u64, at}
use Rattle.serde_json.specs.View.{items_of}
use Rattle.status_file.specs.Jobs.{JobLine}
use Rattle.status_file.specs.Readings.{CalendarAt, ChildAt, ConditionsAt, CountOr0, DemandAt, DisabledAt, EndAt, EntryAt, FactsAt, JobAt, KeysAt, LaterReading, LaterText, MomentsAt, NoteAt, OrderAt, OrderOf, PaceAt, PartAt, PathsAt, ReadingIf, ReasonsAt, RefusedAt, WantsAt}
use Rattle.status_file.specs.Reads.{CountIf, FlagIf, IsReading, NullOr, TextIf, value_at}
use Rattle.status_file.specs.Tokens.{child_pid, order_conn, order_run}
use Rattle.status_file.specs.Values.{Member, awaited_or_null, child_or_null, count_or_null, demand_or_null, disabled_or_null, end_or_null, entry_value, flag_or_null, in_order, job_members, keys_value, line_value, moments_value, object_with, reading_or_null, reading_value, reasons_value, refused_or_null, sorted, sorted_items, text_or_null, wants_value}
use Rattle.status_file.specs.declared.facts.JobFacts.{JobFacts}
use Rattle.status_file.specs.declared.status.DisabledBy.{DisabledBy}
use Rattle.status_file.specs.declared.status.JobKeys.{JobKeys}
use Rattle.status_file.specs.declared.status.JobNote.{JobNote}
use Rattle.status_file.specs.declared.status.JobStatus.{JobStatus}

-- ---- values that may be null

count_if : (key : List ℕ) (object : Option Data) (o : Option ℕ) → value_at key object ≡ Some (sorted (count_or_null o)) → CountIf key object o
count_if key object None is = is
count_if key object (Some count) is = ap (λ v. option_and_then as_u64 (option_and_then as_number v)) is

flag_if : (key : List ℕ) (object : Option Data) (o : Option Bool) → value_at key object ≡ Some (sorted (flag_or_null o)) → FlagIf key object o
flag_if key object None is = is
flag_if key object (Some flag) is = ap (λ v. option_and_then as_bool v) is

text_if : (key : List ℕ) (object : Option Data) (o : Option (Bor (List ℕ))) → value_at key object ≡ Some (sorted (text_or_null o)) → TextIf key object o
text_if key object None is = is
text_if key object (Some text) is = ap (λ v. option_and_then as_str v) is

demand_at : (object : Option Data) (o : Option DemandKind) → value_at (codes "demand") object ≡ Some (sorted (demand_or_null o)) → DemandAt object o
demand_at object None is = is
demand_at object (Some kind) is = ap (λ v. option_and_then as_str v) is

disabled_at : (object : Option Data) (o : Option DisabledBy) → value_at (codes "disabled") object ≡ Some (sorted (disabled_or_null o)) → DisabledAt object o
disabled_at object None is = is
disabled_at object (Some by) is = ap (λ v. option_and_then as_str v) is

reading_if : (o : Option Reading) → NullOr IsReading (Some (sorted (reading_or_null o))) o
reading_if None = refl
reading_if (Some at) = (refl, refl)

part_at : (o : Option ℕ) → PartAt (Some (sorted (count_or_null o))) o
part_at None = refl
part_at (Some part) = refl

-- ---- what the table says

child_at : (o : Option StandingChild) → NullOr ChildAt (Some (sorted (child_or_null o))) o
child_at None = refl
child_at (Some child) = record { run = refl; pid = refl; is_stopped = refl; is_struck = refl }

order_of : (act : Act) → OrderOf (Some (sorted (awaited_or_null (Some act)))) act
order_of (Spawn run conn) = ((Some run, refl, refl), count_if (codes "conn") (Some (sorted (awaited_or_null (Some (Spawn run conn))))) conn refl)
order_of (Term run) = (Some run, refl, refl)
order_of (Kill run) = (Some run, refl, refl)
order_of (Close conn) = (Some conn, refl, refl)
order_of Gone = tt

awaited_at : (o : Option Act) → NullOr OrderAt (Some (sorted (awaited_or_null o))) o
awaited_at None = refl
awaited_at (Some act) = (refl, order_of act)

reasons_at : (r : Reasons) → ReasonsAt (Some (sorted (reasons_value r))) r
reasons_at r = record {
  is_removing = refl;
  child = child_at r.child;
  awaited = awaited_at r.awaited;
  wants = record {
    demand = refl;
    connections = refl;
    keep_alive = refl;
    successful_exit = refl;
    crashed = refl;
    path_state = refl;
    queue_directories = refl;
  };
  throttled_until = count_if (codes "throttled_until") (Some (sorted (reasons_value r))) r.throttled_until refl;
  is_launch_spent = refl;
  are_runs_spent = refl;
}

moments_at : (m : Moments) (spawn : Option ℕ) → MomentsAt (Some (sorted (moments_value m spawn))) m spawn
moments_at m spawn = record {
  term = count_if (codes "term") (Some (sorted (moments_value m spawn))) m.term refl;
  kill = count_if (codes "kill") (Some (sorted (moments_value m spawn))) m.kill refl;
  interval = count_if (codes "interval") (Some (sorted (moments_value m spawn))) m.interval refl;
  spawn = count_if (codes "spawn") (Some (sorted (moments_value m spawn))) spawn refl;
}

-- ---- what was heard of its runs

end_at : (o : Option RunEnd) → NullOr EndAt (Some (sorted (end_or_null o))) o
end_at None = refl
end_at (Some end) = ended end.how where
  ended : (how : Ended) → EndAt (Some (sorted (end_or_null (Some (record end { how = how }))))) (record end { how = how })
  ended (Code code) = record {
    run = refl;
    how = refl;
    ordered = flag_if (codes "ordered") (Some (sorted (end_or_null (Some (record end { how = Code code }))))) end.ordered refl;
    began = (refl, refl);
    ended = (refl, refl);
  }
  ended (Signal signal) = record {
    run = refl;
    how = (refl, refl);
    ordered = flag_if (codes "ordered") (Some (sorted (end_or_null (Some (record end { how = Signal signal }))))) end.ordered refl;
    began = (refl, refl);
    ended = (refl, refl);
  }

refused_at : (o : Option RefusedStart) → NullOr RefusedAt (Some (sorted (refused_or_null o))) o
refused_at None = refl
refused_at (Some start) = record { run = refl; reason = text_if (codes "reason") (Some (sorted (refused_or_null (Some start)))) start.reason refl; at = (refl, refl) }

-- ---- what the definition says

keys_at : (k : JobKeys) → k.knows_errors ≡ true → KeysAt (Some (sorted (keys_value k))) k
keys_at k knows = record {
  run_at_load = refl;
  conditions = record {
    exit = flag_if (codes "successful_exit") (Some (sorted (keys_value k))) k.successful_exit refl;
    crash = flag_if (codes "crashed") (Some (sorted (keys_value k))) k.crashed refl;
    paths = record { many = refl; one = text_if (codes "first_condition") (Some (sorted (keys_value k))) k.path_state.first refl };
    first = flag_if (codes "first_exists") (Some (sorted (keys_value k))) k.first_exists refl;
    path = flag_if (codes "path_exists") (Some (sorted (keys_value k))) k.path_exists refl;
  };
  pace = record { interval = count_if (codes "start_interval") (Some (sorted (keys_value k))) k.start_interval refl; throttle = refl; time_out = refl };
  watch_paths = record { many = refl; one = text_if (codes "first_watched") (Some (sorted (keys_value k))) k.watch_paths.first refl };
  queue_directories = record { many = refl; one = text_if (codes "first_queue") (Some (sorted (keys_value k))) k.queue_directories.first refl };
  has_sockets = refl;
  errors = text_if (codes "errors") (Some (sorted (keys_value k))) k.errors refl;
  knows_errors = knows;
}

entry_at : (e : Entry) → EntryAt (sorted (entry_value e)) e
entry_at e = record {
  minute = part_at e.minute;
  hour = part_at e.hour;
  day = part_at e.day;
  weekday = part_at e.weekday;
  month = part_at e.month;
  no_more = refl;
}

entries_at : (es : List Entry) → AllZip EntryAt (map (λ e. sorted (entry_value e)) es) es
entries_at [] = tt
entries_at (e ∷ es) = (entry_at e, entries_at es)

pub sorted_entries : (es : List Entry) → sorted_items (items_of (map entry_value es)) ≡ items_of (map (λ e. sorted (entry_value e)) es)
sorted_entries [] = refl
sorted_entries (e ∷ es) = ap (item (sorted (entry_value e))) (sorted_entries es)

-- ---- the line

abbrev pub object_of_job : JobLine → Option Data
object_of_job line = value_at (codes "job") (Some (sorted (line_value line)))

pub job_at : (line : JobLine) → line.job.keys.knows_errors ≡ true → JobAt (object_of_job line) line.job
job_at line knows = record {
  label = refl;
  facts = record {
    reasons = reasons_at line.job.facts.reasons;
    moments = moments_at line.job.facts.moments line.job.facts.spawns_from;
    demand = demand_at (object_of_job line) line.job.facts.demand refl;
    path = text_if (codes "path") (object_of_job line) line.job.facts.path refl;
  };
  note = record {
    since = (refl, refl);
    run = refl;
    starts = refl;
    unsuccessful = refl;
    refusals = refl;
    started = reading_if line.job.note.started;
    term = reading_if line.job.note.term;
    kill = reading_if line.job.note.kill;
    last_end = end_at line.job.note.last_end;
    succeeded = reading_if line.job.note.succeeded;
    refused = refused_at line.job.note.refused;
    definition = text_if (codes "definition") (object_of_job line) line.job.note.definition refl;
    disabled_at = reading_if line.job.note.disabled_at;
  };
  keys = keys_at line.job.keys knows;
  disabled = disabled_at (object_of_job line) line.job.disabled refl;
}

pub calendar_at : (line : JobLine) → CalendarAt (object_of_job line) line.calendar
calendar_at line = (map (λ e. sorted (entry_value e)) line.calendar, ap Some (sorted_entries line.calendar), entries_at line.calendar)

-- ---- how deep it nests

count_deep : (n : ℕ) (o : Option ℕ) → depth (count_or_null o) ≤ n
count_deep n None = omega arith
count_deep n (Some count) = omega arith

text_deep : (n : ℕ) (o : Option (Bor (List ℕ))) → depth (text_or_null o) ≤ n
text_deep n None = omega arith
text_deep n (Some text) = omega arith

flag_deep : (n : ℕ) (o : Option Bool) → depth (flag_or_null o) ≤ n
flag_deep n None = omega arith
flag_deep n (Some flag) = omega arith

demand_deep : (n : ℕ) (o : Option DemandKind) → depth (demand_or_null o) ≤ n
demand_deep n None = omega arith
demand_deep n (Some kind) = omega arith

disabled_deep : (n : ℕ) (o : Option DisabledBy) → depth (disabled_or_null o) ≤ n
disabled_deep n None = omega arith
disabled_deep n (Some by) = omega arith

reading_deep : (o : Option Reading) → depth (reading_or_null o) ≤ 3
reading_deep None = omega arith
reading_deep (Some at) = omega arith

child_deep : (o : Option StandingChild) → depth (child_or_null o) ≤ 2
child_deep None = omega arith
child_deep (Some child) = omega arith

awaited_deep : (o : Option Act) → depth (awaited_or_null o) ≤ 2
awaited_deep None = omega arith
awaited_deep (Some act) = omega (arith, count_deep 1 (order_run act), count_deep 1 (order_conn act))

end_deep : (o : Option RunEnd) → depth (end_or_null o) ≤ 3
end_deep None = omega arith
end_deep (Some end) = omega (arith, flag_deep 2 end.ordered)

refused_deep : (o : Option RefusedStart) → depth (refused_or_null o) ≤ 3
refused_deep None = omega arith
refused_deep (Some start) = omega (arith, text_deep 2 start.reason)

reasons_deep : (r : Reasons) → depth (reasons_value r) ≤ 3
reasons_deep r = omega (arith, count_deep 2 r.throttled_until, child_deep r.child, awaited_deep r.awaited)

moments_deep : (m : Moments) (spawn : Option ℕ) → depth (moments_value m spawn) ≤ 3
moments_deep m spawn = omega (arith, count_deep 2 m.term, count_deep 2 m.kill, count_deep 2 m.interval, count_deep 2 spawn)

keys_deep : (k : JobKeys) → depth (keys_value k) ≤ 3
keys_deep k =
    omega (
      arith,
      flag_deep 2 k.successful_exit,
      flag_deep 2 k.crashed,
      text_deep 2 k.path_state.first,
      flag_deep 2 k.first_exists,
      flag_deep 2 k.path_exists,
      count_deep 2 k.start_interval,
      text_deep 2 k.watch_paths.first,
      text_deep 2 k.queue_directories.first,
      text_deep 2 k.errors,
    )

entry_deep : (e : Entry) → depth (entry_value e) ≤ 2
entry_deep e = omega (arith, count_deep 1 e.minute, count_deep 1 e.hour, count_deep 1 e.day, count_deep 1 e.weekday, count_deep 1 e.month)

entries_deep : (es : List Entry) → items_depth (items_of (map entry_value es)) ≤ 2
entries_deep [] = omega arith
entries_deep (e ∷ es) = omega (arith, entry_deep e, entries_deep es)

none : (n : ℕ) → 0 ≤ n
none n = omega arith

most : {a b n : ℕ} → a ≤ n → b ≤ n → max a b ≤ n
most less more = omega (arith, less, more)

pub line_deep : (line : JobLine) → depth (line_value line) ≤ 127
line_deep line =
    let note = line.job.note in
    let facts = line.job.facts in
    let since : depth (reading_value note.since) ≤ 3 = omega arith in
    let calendar : depth (array (items_of (map entry_value line.calendar))) ≤ 3 = omega (arith, entries_deep line.calendar) in
    let inside : members_depth (in_order (job_members line.job line.calendar)) ≤ 3 =
    most (none 3) (most (none 3) (most (count_deep 3 (child_pid facts.reasons.child)) (most (none 3) (most (none 3) (most (none 3) (most (none 3) (most (none 3)
    (most (disabled_deep 3 line.job.disabled) (most (text_deep 3 note.definition) (most since (most (reading_deep note.started) (most (reading_deep note.term)
    (most (reading_deep note.kill) (most (end_deep note.last_end) (most (refused_deep note.refused) (most (reading_deep note.succeeded)
    (most (reading_deep note.disabled_at) (most (reasons_deep facts.reasons) (most (moments_deep facts.moments facts.spawns_from)
    (most (demand_deep 3 facts.demand) (most (text_deep 3 facts.path) (most (keys_deep line.job.keys) (most calendar (none 3)))))))))))))))))))))))) in
    omega (arith, inside)
