-- What meets the reader's promise of a line's value is the job that was written.
use Rattle.std.proofs.Common.{◌≡◌, ℕ, suc, ◌+◌, List, [], ◌∷◌, Bool, true, Some, None, Option, map, codes, ◌==◌, cond, get_or, option_and_then, refl, sym, ap, subst, ◌∙◌, arith}
use Rattle.std.specs.Borrow.{Bor}
use Rattle.std.specs.List.{AllZip}
use Rattle.std.specs.Prelude.{⊤, is_some, unwrap_or}
use Rattle.history_model.specs.declared.Act.{Act}
use Rattle.history_model.specs.declared.Act.TheVariants.{Spawn, Term, Kill, Close, Gone}
use Rattle.history_model.specs.declared.Ended.{Ended}
use Rattle.history_model.specs.declared.Ended.TheVariants.{Code, Signal}
use Rattle.history_model.specs.declared.Entry.{Entry}
use Rattle.history_model.specs.declared.Reading.{Reading}
use Rattle.history_model.specs.declared.reasons.DemandKind.{DemandKind}
use Rattle.history_model.specs.declared.reasons.DemandKind.TheVariants as kinds
use Rattle.history_model.specs.declared.reasons.Reasons.{Reasons}
use Rattle.history_model.specs.declared.reasons.StandingChild.{StandingChild}
use Rattle.history_model.specs.declared.reasons.Wants.{Wants}
use Rattle.job_core.specs.declared.job.moments.Moments.{Moments}
use Rattle.run_log.specs.declared.facts.RefusedStart.{RefusedStart}
use Rattle.run_log.specs.declared.facts.RunEnd.{RunEnd}
use Rattle.serde_json.specs.Data.{Data, Items, no_items, item}
use Rattle.serde_json.specs.Find.{as_bool, as_number, as_str, as_u64, at}
use Rattle.serde_json.specs.View.{items_of}
use Rattle.status_file.specs.Jobs.{JobLine}
use Rattle.status_file.specs.Readings.{CalendarAt, ChildAt, CountOr0, DemandAt, DisabledAt, EndAt, EndedAt, EntryAt, FactsAt, JobAt, KeysAt, LaterFlag, MomentsAt, NoteAt, OrderAt, OrderOf, PartAt, PathsAt, ReasonsAt, RefusedAt, WantsAt}
use Rattle.status_file.specs.Reads.{CountIf, FlagIf, IsReading, NullOr, TextIf, count_at, value_at}
use Rattle.status_file.specs.RoundTrip.{SameFacts, SameJob, SameKeys, SameNote, SamePaths, SameRefusal, bytes_of}
use Rattle.status_file.specs.Tokens.{demand_text, disabled_text, order_text}
use Rattle.status_file.specs.Values.{awaited_or_null, child_or_null, count_or_null, demand_or_null, disabled_or_null, end_or_null, entry_value, flag_or_null, keys_value, line_value, moments_value, reading_or_null, reading_value, reasons_value, refused_or_null, sorted, sorted_items, text_or_null, wants_value}
use Rattle.status_file.proofs.ValueReadingsLemmas.{object_of_job, sorted_entries}
use Rattle.status_file.specs.declared.facts.JobFacts.{JobFacts}
use Rattle.status_file.specs.declared.status.DisabledBy.{DisabledBy}
use Rattle.status_file.specs.declared.status.DisabledBy.TheVariants.{Definition, Override}
use Rattle.status_file.specs.declared.status.JobKeys.{JobKeys}
use Rattle.status_file.specs.declared.status.JobNote.{JobNote}
use Rattle.status_file.specs.declared.status.JobStatus.{JobStatus}

-- ---- values that may be null

abbrev unwrapped : {A : Type 0} → A → Option A → A
unwrapped x None = x
unwrapped x (Some y) = y

-- what was read, by what was written
same : {A : Type 0} (a b : A) → Some a ≡ Some b → b ≡ a
same a b is = sym (ap (unwrapped a) is)

count_same : (key : List ℕ) (object : Option Data) (a b : Option ℕ) → value_at key object ≡ Some (sorted (count_or_null a)) → CountIf key object b → b ≡ a
count_same key object None None is read = refl
count_same key object None (Some b) is read = absurd (cc)
count_same key object (Some a) None is read = absurd (cc)
count_same key object (Some a) (Some b) is read = ap Some (same a b (sym (ap (λ v. option_and_then as_u64 (option_and_then as_number v)) is) ∙ read))

flag_same : (key : List ℕ) (object : Option Data) (a b : Option Bool) → value_at key object ≡ Some (sorted (flag_or_null a)) → FlagIf key object b → b ≡ a
flag_same key object None None is read = refl
flag_same key object None (Some b) is read = absurd (cc)
flag_same key object (Some a) None is read = absurd (cc)
flag_same key object (Some a) (Some b) is read = ap Some (same a b (sym (ap (λ v. option_and_then as_bool v) is) ∙ read))

text_same : (key : List ℕ) (object : Option Data) (a b : Option (Bor (List ℕ))) → value_at key object ≡ Some (sorted (text_or_null a)) → TextIf key object b → bytes_of b ≡ bytes_of a
text_same key object None None is read = refl
text_same key object None (Some b) is read = absurd (cc)
text_same key object (Some a) None is read = absurd (cc)
text_same key object (Some a) (Some b) is read = ap Some (same a.now b.now (sym (ap (λ v. option_and_then as_str v) is) ∙ read))

part_same : (a b : Option ℕ) → PartAt (Some (sorted (count_or_null a))) b → b ≡ a
part_same None None read = refl
part_same None (Some b) read = absurd (cc)
part_same (Some a) None read = absurd (cc)
part_same (Some a) (Some b) read = ap Some (same a b read)

reading_is : (a b : Reading) → IsReading (Some (sorted (reading_value a))) b → b ≡ a
reading_is a b read = λ i. record { up = same a.up b.up read.0 i; wall = same a.wall b.wall read.1 i }

reading_same : (a b : Option Reading) → NullOr IsReading (Some (sorted (reading_or_null a))) b → b ≡ a
reading_same None None read = refl
reading_same None (Some b) read = absurd (cc)
reading_same (Some a) None read = absurd (cc)
reading_same (Some a) (Some b) read = ap Some (reading_is a b read)

-- ---- what the table says

abbrev first_letter : List ℕ → ℕ
first_letter text = get_or text 0 0

letters : {a b : List ℕ} → Some a ≡ Some b → first_letter a ≡ first_letter b
letters text = ap (λ o. first_letter (unwrapped [] o)) text

abbrev kind_by : ℕ → DemandKind
kind_by letter =
    cond (letter == 108) kinds.Load (cond (letter == 115) kinds.Start (cond (letter == 107) kinds.Kickstart
    (cond (letter == 105) kinds.Interval (cond (letter == 99) kinds.Calendar kinds.Path))))

kind_back : (kind : DemandKind) → kind_by (first_letter (demand_text kind)) ≡ kind
kind_back kinds.Load = refl
kind_back kinds.Start = refl
kind_back kinds.Kickstart = refl
kind_back kinds.Interval = refl
kind_back kinds.Calendar = refl
kind_back kinds.Path = refl

demand_same : (object : Option Data) (a b : Option DemandKind) → value_at (codes "demand") object ≡ Some (sorted (demand_or_null a)) → DemandAt object b → b ≡ a
demand_same object None None is read = refl
demand_same object None (Some b) is read = absurd (cc)
demand_same object (Some a) None is read = absurd (cc)
demand_same object (Some a) (Some b) is read =
    ap Some (sym (kind_back b) ∙ ap kind_by (sym (letters (sym (ap (λ v. option_and_then as_str v) is) ∙ read))) ∙ kind_back a)

abbrev by_letter : ℕ → DisabledBy
by_letter letter = cond (letter == 100) Definition Override

by_back : (by : DisabledBy) → by_letter (first_letter (disabled_text by)) ≡ by
by_back Definition = refl
by_back Override = refl

disabled_same : (object : Option Data) (a b : Option DisabledBy) → value_at (codes "disabled") object ≡ Some (sorted (disabled_or_null a)) → DisabledAt object b → b ≡ a
disabled_same object None None is read = refl
disabled_same object None (Some b) is read = absurd (cc)
disabled_same object (Some a) None is read = absurd (cc)
disabled_same object (Some a) (Some b) is read =
    ap Some (sym (by_back b) ∙ ap by_letter (sym (letters (sym (ap (λ v. option_and_then as_str v) is) ∙ read))) ∙ by_back a)

child_same : (a b : Option StandingChild) → NullOr ChildAt (Some (sorted (child_or_null a))) b → b ≡ a
child_same None None read = refl
child_same None (Some b) read = let never = read.run in absurd (cc)
child_same (Some a) None read = absurd (cc)
child_same (Some a) (Some b) read = ap Some (λ i. record {
  run = same a.run b.run read.run i;
  pid = same a.pid b.pid read.pid i;
  is_stopped = same a.is_stopped b.is_stopped read.is_stopped i;
  is_struck = same a.is_struck b.is_struck read.is_struck i;
})

run_is : (key : List ℕ) (object : Option Data) (a b : ℕ) → value_at key object ≡ Some (sorted (count_or_null (Some a))) → CountOr0 key object b → b ≡ a
run_is key object a b is (given, read, number) = number ∙ ap (λ g. unwrap_or g 0) (count_same key object (Some a) given is read)

-- two numbers of which one is less
below : {P : Type 0} (x more : ℕ) → x ≡ x + suc more → P
below x more is = absurd (omega arith)

order_same : (a b : Act) → Some (order_text a) ≡ Some (order_text b) → OrderOf (Some (sorted (awaited_or_null (Some a)))) b → b ≡ a
order_same (Spawn r c) (Spawn s d) text of = λ i. Spawn (run_is (codes "run") (Some (sorted (awaited_or_null (Some (Spawn r c))))) r s refl of.0 i) (count_same (codes "conn") (Some (sorted (awaited_or_null (Some (Spawn r c))))) c d refl of.1 i)
order_same (Spawn r c) (Term s) text of = below 115 0 (letters text)
order_same (Spawn r c) (Kill s) text of = below 107 7 (sym (letters text))
order_same (Spawn r c) (Close d) text of = below 99 15 (sym (letters text))
order_same (Spawn r c) Gone text of = below 103 11 (sym (letters text))
order_same (Term r) (Spawn s d) text of = below 115 0 (sym (letters text))
order_same (Term r) (Term s) text of = ap Term (run_is (codes "run") (Some (sorted (awaited_or_null (Some (Term r))))) r s refl of)
order_same (Term r) (Kill s) text of = below 107 8 (sym (letters text))
order_same (Term r) (Close d) text of = below 99 16 (sym (letters text))
order_same (Term r) Gone text of = below 103 12 (sym (letters text))
order_same (Kill r) (Spawn s d) text of = below 107 7 (letters text)
order_same (Kill r) (Term s) text of = below 107 8 (letters text)
order_same (Kill r) (Kill s) text of = ap Kill (run_is (codes "run") (Some (sorted (awaited_or_null (Some (Kill r))))) r s refl of)
order_same (Kill r) (Close d) text of = below 99 7 (sym (letters text))
order_same (Kill r) Gone text of = below 103 3 (sym (letters text))
order_same (Close c) (Spawn s d) text of = below 99 15 (letters text)
order_same (Close c) (Term s) text of = below 99 16 (letters text)
order_same (Close c) (Kill s) text of = below 99 7 (letters text)
order_same (Close c) (Close d) text of = ap Close (run_is (codes "conn") (Some (sorted (awaited_or_null (Some (Close c))))) c d refl of)
order_same (Close c) Gone text of = below 99 3 (letters text)
order_same Gone (Spawn s d) text of = below 103 11 (letters text)
order_same Gone (Term s) text of = below 103 12 (letters text)
order_same Gone (Kill s) text of = below 103 3 (letters text)
order_same Gone (Close d) text of = below 99 3 (sym (letters text))
order_same Gone Gone text of = refl

awaited_same : (a b : Option Act) → NullOr OrderAt (Some (sorted (awaited_or_null a))) b → b ≡ a
awaited_same None None read = refl
awaited_same None (Some b) read = let never = read.0 in absurd (cc)
awaited_same (Some a) None read = absurd (cc)
awaited_same (Some a) (Some b) read = ap Some (order_same a b read.0 read.1)

wants_same : (a b : Wants) → WantsAt (Some (sorted (wants_value a))) b → b ≡ a
wants_same a b read = λ i. record {
  demand = same a.demand b.demand read.demand i;
  connections = same a.connections b.connections read.connections i;
  keep_alive = same a.keep_alive b.keep_alive read.keep_alive i;
  successful_exit = same a.successful_exit b.successful_exit read.successful_exit i;
  crashed = same a.crashed b.crashed read.crashed i;
  path_state = same a.path_state b.path_state read.path_state i;
  queue_directories = same a.queue_directories b.queue_directories read.queue_directories i;
}

reasons_same : (a b : Reasons) → ReasonsAt (Some (sorted (reasons_value a))) b → b ≡ a
reasons_same a b read = λ i. record {
  is_removing = same a.is_removing b.is_removing read.is_removing i;
  child = child_same a.child b.child read.child i;
  awaited = awaited_same a.awaited b.awaited read.awaited i;
  wants = wants_same a.wants b.wants read.wants i;
  throttled_until = count_same (codes "throttled_until") (Some (sorted (reasons_value a))) a.throttled_until b.throttled_until refl read.throttled_until i;
  is_launch_spent = same a.is_launch_spent b.is_launch_spent read.is_launch_spent i;
  are_runs_spent = same a.are_runs_spent b.are_runs_spent read.are_runs_spent i;
}

module _ (a b : Moments) (x y : Option ℕ) (read : MomentsAt (Some (sorted (moments_value a x))) b y) where
  moments_same : b ≡ a
  moments_same = λ i. record {
    term = count_same (codes "term") (Some (sorted (moments_value a x))) a.term b.term refl read.term i;
    kill = count_same (codes "kill") (Some (sorted (moments_value a x))) a.kill b.kill refl read.kill i;
    interval = count_same (codes "interval") (Some (sorted (moments_value a x))) a.interval b.interval refl read.interval i;
  }

  spawn_same : y ≡ x
  spawn_same = count_same (codes "spawn") (Some (sorted (moments_value a x))) x y refl read.spawn

-- ---- what was heard of its runs

ended_same : (a : RunEnd) (how now : Ended) → EndedAt (Some (sorted (end_or_null (Some (record a { how = how }))))) now → now ≡ how
ended_same a (Code x) (Code y) read = ap Code (same x y read)
ended_same a (Code x) (Signal y) read = let never = read.0 in absurd (cc)
ended_same a (Signal x) (Code y) read = absurd (cc)
ended_same a (Signal x) (Signal y) read = ap Signal (same x y read.1)

end_run : (a : RunEnd) (how : Ended) (b : ℕ) → count_at (codes "run") (Some (sorted (end_or_null (Some (record a { how = how }))))) ≡ Some b → b ≡ a.run
end_run a (Code x) b read = same a.run b read
end_run a (Signal x) b read = same a.run b read

end_ordered : (a : RunEnd) (how : Ended) (b : Option Bool) → LaterFlag (codes "ordered") (Some (sorted (end_or_null (Some (record a { how = how }))))) b → b ≡ a.ordered
end_ordered a (Code x) b read = flag_same (codes "ordered") (Some (sorted (end_or_null (Some (record a { how = Code x }))))) a.ordered b refl read
end_ordered a (Signal x) b read = flag_same (codes "ordered") (Some (sorted (end_or_null (Some (record a { how = Signal x }))))) a.ordered b refl read

end_began : (a : RunEnd) (how : Ended) (b : Reading) → IsReading (value_at (codes "began") (Some (sorted (end_or_null (Some (record a { how = how })))))) b → b ≡ a.began
end_began a (Code x) b read = reading_is a.began b read
end_began a (Signal x) b read = reading_is a.began b read

end_ended : (a : RunEnd) (how : Ended) (b : Reading) → IsReading (value_at (codes "ended") (Some (sorted (end_or_null (Some (record a { how = how })))))) b → b ≡ a.ended
end_ended a (Code x) b read = reading_is a.ended b read
end_ended a (Signal x) b read = reading_is a.ended b read

end_same : (a b : Option RunEnd) → NullOr EndAt (Some (sorted (end_or_null a))) b → b ≡ a
end_same None None read = refl
end_same None (Some b) read = let never = read.run in absurd (cc)
end_same (Some a) None read = absurd (cc)
end_same (Some a) (Some b) read = ap Some (λ i. record {
  run = end_run a a.how b.run read.run i;
  how = ended_same a a.how b.how read.how i;
  ordered = end_ordered a a.how b.ordered read.ordered i;
  began = end_began a a.how b.began read.began i;
  ended = end_ended a a.how b.ended read.ended i;
})

refused_same : (a b : Option RefusedStart) → NullOr RefusedAt (Some (sorted (refused_or_null a))) b → SameRefusal a b
refused_same None None read = tt
refused_same None (Some b) read = let never = read.run in absurd (cc)
refused_same (Some a) None read = absurd (cc)
refused_same (Some a) (Some b) read =
    (same a.run b.run read.run, text_same (codes "reason") (Some (sorted (refused_or_null (Some a)))) a.reason b.reason refl read.reason, reading_is a.at b.at read.at)

-- ---- what the definition says

keys_same : (a b : JobKeys) → KeysAt (Some (sorted (keys_value a))) b → SameKeys a b
keys_same a b read =
    let object = Some (sorted (keys_value a)) in
    record {
      run_at_load = same a.run_at_load b.run_at_load read.run_at_load;
      successful_exit = flag_same (codes "successful_exit") object a.successful_exit b.successful_exit refl read.conditions.exit;
      crashed = flag_same (codes "crashed") object a.crashed b.crashed refl read.conditions.crash;
      path_state = record {
        count = same a.path_state.count b.path_state.count read.conditions.paths.many;
        first = text_same (codes "first_condition") object a.path_state.first b.path_state.first refl read.conditions.paths.one;
      };
      first_exists = flag_same (codes "first_exists") object a.first_exists b.first_exists refl read.conditions.first;
      path_exists = flag_same (codes "path_exists") object a.path_exists b.path_exists refl read.conditions.path;
      start_interval = count_same (codes "start_interval") object a.start_interval b.start_interval refl read.pace.interval;
      throttle_interval = same a.throttle_interval b.throttle_interval read.pace.throttle;
      exit_time_out = same a.exit_time_out b.exit_time_out read.pace.time_out;
      watch_paths = record {
        count = same a.watch_paths.count b.watch_paths.count read.watch_paths.many;
        first = text_same (codes "first_watched") object a.watch_paths.first b.watch_paths.first refl read.watch_paths.one;
      };
      queue_directories = record {
        count = same a.queue_directories.count b.queue_directories.count read.queue_directories.many;
        first = text_same (codes "first_queue") object a.queue_directories.first b.queue_directories.first refl read.queue_directories.one;
      };
      has_sockets = same a.has_sockets b.has_sockets read.has_sockets;
      errors = text_same (codes "errors") object a.errors b.errors refl read.errors;
      knows_errors = read.knows_errors;
    }

entry_same : (a b : Entry) → EntryAt (sorted (entry_value a)) b → b ≡ a
entry_same a b read = λ i. record {
  minute = part_same a.minute b.minute read.minute i;
  hour = part_same a.hour b.hour read.hour i;
  day = part_same a.day b.day read.day i;
  weekday = part_same a.weekday b.weekday read.weekday i;
  month = part_same a.month b.month read.month i;
}

entries_same : (a b : List Entry) → AllZip EntryAt (map (λ e. sorted (entry_value e)) a) b → b ≡ a
entries_same [] [] read = refl
entries_same [] (y ∷ b) read = absurd read
entries_same (x ∷ a) [] read = absurd read
entries_same (x ∷ a) (y ∷ b) read = λ i. entry_same x y read.0 i ∷ entries_same a b read.1 i

abbrev values_of : Items → List Data
values_of no_items = []
values_of (item d ds) = d ∷ values_of ds

values_back : (ds : List Data) → values_of (items_of ds) ≡ ds
values_back [] = refl
values_back (d ∷ ds) = ap (λ more. d ∷ more) (values_back ds)

-- ---- the line

pub job_same : (line : JobLine) (read : JobStatus) → JobAt (object_of_job line) read → SameJob line.job read
job_same line read at =
    let object = object_of_job line in
    let a = line.job in
    let note = at.note in
    let facts = at.facts in
    record {
      label = same a.label.now read.label.now at.label;
      facts = record {
        reasons = reasons_same a.facts.reasons read.facts.reasons facts.reasons;
        moments = moments_same a.facts.moments read.facts.moments a.facts.spawns_from read.facts.spawns_from facts.moments;
        spawns_from = spawn_same a.facts.moments read.facts.moments a.facts.spawns_from read.facts.spawns_from facts.moments;
        demand = demand_same object a.facts.demand read.facts.demand refl facts.demand;
        path = text_same (codes "path") object a.facts.path read.facts.path refl facts.path;
      };
      note = record {
        since = reading_is a.note.since read.note.since note.since;
        run = same a.note.run read.note.run note.run;
        starts = same a.note.starts read.note.starts note.starts;
        unsuccessful = same a.note.unsuccessful read.note.unsuccessful note.unsuccessful;
        refusals = same a.note.refusals read.note.refusals note.refusals;
        started = reading_same a.note.started read.note.started note.started;
        term = reading_same a.note.term read.note.term note.term;
        kill = reading_same a.note.kill read.note.kill note.kill;
        last_end = end_same a.note.last_end read.note.last_end note.last_end;
        succeeded = reading_same a.note.succeeded read.note.succeeded note.succeeded;
        refused = refused_same a.note.refused read.note.refused note.refused;
        definition = text_same (codes "definition") object a.note.definition read.note.definition refl note.definition;
        disabled_at = reading_same a.note.disabled_at read.note.disabled_at note.disabled_at;
      };
      keys = keys_same a.keys read.keys at.keys;
      disabled = disabled_same object a.disabled read.disabled refl at.disabled;
    }

pub calendar_same : (line : JobLine) (read : List Entry) → CalendarAt (object_of_job line) read → read ≡ line.calendar
calendar_same line read (values, is, all) =
    let listed = map (λ e. sorted (entry_value e)) line.calendar in
    let items : items_of values ≡ items_of listed = same _ _ is ∙ sorted_entries line.calendar in
    let each : values ≡ listed = sym (values_back values) ∙ ap values_of items ∙ values_back listed in
    entries_same line.calendar read (subst (λ ds. AllZip EntryAt ds read) each all)
