-- The tokens of the value of a line are those that are written.
use Rattle.std.proofs.Common.{◌≡◌, ℕ, ◌≤◌, List, [], ◌∷◌, ◌++◌, Bool, Some, None, Option, map, codes, refl, sym, ap, ◌∙◌, arith, append_assoc}
use Rattle.std.specs.Borrow.{Bor}
use Rattle.std.specs.List.{flat_map, AllByRecursion}
use Rattle.history_model.specs.Texts.{state_text}
use Rattle.history_model.specs.declared.Act.{Act}
use Rattle.history_model.specs.declared.Act.TheVariants.{Spawn, Term, Kill, Close, Gone}
use Rattle.history_model.specs.declared.Ended.TheVariants.{Code, Signal}
use Rattle.history_model.specs.declared.Entry.{Entry}
use Rattle.history_model.specs.declared.Reading.{Reading}
use Rattle.history_model.specs.declared.reasons.DemandKind.{DemandKind}
use Rattle.history_model.specs.declared.reasons.Reasons.{Reasons}
use Rattle.history_model.specs.declared.reasons.StandingChild.{StandingChild}
use Rattle.job_core.specs.declared.job.moments.Moments.{Moments}
use Rattle.json.specs.Token.{Token, begin_object, end_object, begin_array, end_array, key, string, number, boolean}
use Rattle.json.specs.Tree.{json_tokens, items_tokens, members_tokens}
use Rattle.run_log.specs.declared.facts.RefusedStart.{RefusedStart}
use Rattle.run_log.specs.declared.facts.RunEnd.{RunEnd}
use Rattle.serde_json.specs.Data.{Data, depth}
use Rattle.serde_json.specs.View.{items_of}
use Rattle.serde_json.specs.Written.{items_outline, members_outline, outline}
use Rattle.status_file.specs.Jobs.{JobLine}
use Rattle.status_file.specs.Tokens.{awaited_tokens, calendar_tokens, child_pid, child_tokens, count_token, demand_token, disabled_token, end_tokens, entry_tokens, flag_token, front_tokens, held_tokens, job_tokens, keys_tokens, moment_tokens, moments_tokens, note_tokens, order_conn, order_run, reasons_tokens, refused_tokens, text_token, wants_tokens}
use Rattle.status_file.specs.States.{state_by_reasons}
use Rattle.status_file.specs.Values.{Member, awaited_or_null, child_or_null, count_or_null, count_value, demand_or_null, disabled_or_null, end_or_null, entry_value, flag_or_null, in_order, job_members, keys_value, line_value, moments_value, object_with, reading_or_null, reading_value, reasons_members, reasons_value, refused_or_null, text_or_null, wants_value}
use Rattle.status_file.specs.declared.facts.JobFacts.{JobFacts}
use Rattle.status_file.specs.declared.status.DisabledBy.{DisabledBy}
use Rattle.status_file.specs.declared.status.JobKeys.{JobKeys}
use Rattle.status_file.specs.declared.status.JobNote.{JobNote}
use Rattle.status_file.specs.declared.status.JobStatus.{JobStatus}

-- the tokens of a value
abbrev said : Data → List Token
said d = json_tokens (outline d)

-- those of an object's members with its end, and then others
abbrev said_with : List Member → List Token → List Token
said_with [] rest = end_object ∷ rest
said_with (one ∷ more) rest = key one.0 ∷ (said one.1 ++ said_with more rest)

members_then : (ms : List Member) (rest : List Token) → members_tokens (members_outline (in_order ms)) ++ rest ≡ said_with ms rest
members_then [] rest = refl
members_then (one ∷ more) rest =
    ap (λ ts. key one.0 ∷ ts) (append_assoc (said one.1) (members_tokens (members_outline (in_order more))) rest ∙ ap (λ ts. said one.1 ++ ts) (members_then more rest))

object_then : (ms : List Member) (rest : List Token) → said (object_with ms) ++ rest ≡ begin_object ∷ said_with ms rest
object_then ms rest = ap (λ ts. begin_object ∷ ts) (members_then ms rest)

-- ---- values that may be null

count_said : (o : Option ℕ) → said (count_or_null o) ≡ count_token o ∷ []
count_said None = refl
count_said (Some count) = refl

text_said : (o : Option (Bor (List ℕ))) → said (text_or_null o) ≡ text_token o ∷ []
text_said None = refl
text_said (Some text) = refl

flag_said : (o : Option Bool) → said (flag_or_null o) ≡ flag_token o ∷ []
flag_said None = refl
flag_said (Some flag) = refl

demand_said : (o : Option DemandKind) → said (demand_or_null o) ≡ demand_token o ∷ []
demand_said None = refl
demand_said (Some kind) = refl

disabled_said : (o : Option DisabledBy) → said (disabled_or_null o) ≡ disabled_token o ∷ []
disabled_said None = refl
disabled_said (Some by) = refl

moment_said : (name : List ℕ) (o : Option Reading) (rest : List Token) → key name ∷ (said (reading_or_null o) ++ rest) ≡ moment_tokens name o ++ rest
moment_said name None rest = refl
moment_said name (Some at) rest = refl

-- ---- the parts of a line, each before others

child_said : (o : Option StandingChild) (rest : List Token) → key (codes "child") ∷ (said (child_or_null o) ++ rest) ≡ child_tokens o ++ rest
child_said None rest = refl
child_said (Some child) rest = refl

awaited_said : (o : Option Act) (rest : List Token) → key (codes "awaited") ∷ (said (awaited_or_null o) ++ rest) ≡ awaited_tokens o ++ rest
awaited_said None rest = refl
awaited_said (Some act) rest = rw (count_said (order_run act), count_said (order_conn act)) refl

end_said : (o : Option RunEnd) (rest : List Token) → key (codes "last_end") ∷ (said (end_or_null o) ++ rest) ≡ end_tokens o ++ rest
end_said None rest = refl
end_said (Some end) rest = rw (flag_said end.ordered) refl

refused_said : (o : Option RefusedStart) (rest : List Token) → key (codes "refused") ∷ (said (refused_or_null o) ++ rest) ≡ refused_tokens o ++ rest
refused_said None rest = refl
refused_said (Some start) rest = rw (text_said start.reason) refl

front_said : (j : JobStatus) (rest : List Token) →
    begin_object ∷ key (codes "job") ∷ begin_object
    ∷ key (codes "label") ∷ string j.label.now
    ∷ key (codes "state") ∷ string (state_text (state_by_reasons j.facts.reasons))
    ∷ key (codes "pid") ∷ (said (count_or_null (child_pid j.facts.reasons.child))
    ++ key (codes "run") ∷ (said (count_value j.note.run)
    ++ key (codes "starts") ∷ (said (count_value j.note.starts)
    ++ key (codes "failures") ∷ (said (count_value j.note.unsuccessful)
    ++ key (codes "refusals") ∷ (said (count_value j.note.refusals)
    ++ key (codes "connections") ∷ (said (count_value j.facts.reasons.wants.connections)
    ++ key (codes "disabled") ∷ (said (disabled_or_null j.disabled)
    ++ key (codes "definition") ∷ (said (text_or_null j.note.definition) ++ rest)))))))) ≡ front_tokens j ++ rest
front_said j rest = rw (count_said (child_pid j.facts.reasons.child), disabled_said j.disabled, text_said j.note.definition) refl

note_said : (n : JobNote) (rest : List Token) →
    key (codes "since") ∷ (said (reading_value n.since)
    ++ key (codes "started") ∷ (said (reading_or_null n.started)
    ++ key (codes "term") ∷ (said (reading_or_null n.term)
    ++ key (codes "kill") ∷ (said (reading_or_null n.kill)
    ++ key (codes "last_end") ∷ (said (end_or_null n.last_end)
    ++ key (codes "refused") ∷ (said (refused_or_null n.refused)
    ++ key (codes "succeeded") ∷ (said (reading_or_null n.succeeded)
    ++ key (codes "disabled_at") ∷ (said (reading_or_null n.disabled_at) ++ rest)))))))) ≡ note_tokens n ++ rest
note_said n rest =
    let all = moment_said (codes "disabled_at") n.disabled_at rest in
    let all = moment_said (codes "succeeded") n.succeeded _ ∙ ap (λ ts. moment_tokens (codes "succeeded") n.succeeded ++ ts) all in
    let all = refused_said n.refused _ ∙ ap (λ ts. refused_tokens n.refused ++ ts) all in
    let all = end_said n.last_end _ ∙ ap (λ ts. end_tokens n.last_end ++ ts) all in
    let all = moment_said (codes "kill") n.kill _ ∙ ap (λ ts. moment_tokens (codes "kill") n.kill ++ ts) all in
    let all = moment_said (codes "term") n.term _ ∙ ap (λ ts. moment_tokens (codes "term") n.term ++ ts) all in
    let all = moment_said (codes "started") n.started _ ∙ ap (λ ts. moment_tokens (codes "started") n.started ++ ts) all in
    let all = moment_said (codes "since") (Some n.since) _ ∙ ap (λ ts. moment_tokens (codes "since") (Some n.since) ++ ts) all in
    all ∙ simp append_assoc

reasons_said : (r : Reasons) (rest : List Token) → key (codes "reasons") ∷ (said (reasons_value r) ++ rest) ≡ reasons_tokens r ++ rest
reasons_said r rest =
    let last = wants_tokens r.wants ++ (end_object ∷ rest) in
    let inside = child_said r.child _ ∙ ap (λ ts. child_tokens r.child ++ ts) (awaited_said r.awaited last) in
    ap (λ ts. key (codes "reasons") ∷ ts) (object_then (reasons_members r) rest)
    ∙ ap (λ ts. key (codes "reasons") ∷ begin_object ∷ key (codes "removing") ∷ boolean r.is_removing ∷ key (codes "throttled_until") ∷ (ts ++ key (codes "launch_spent") ∷ boolean r.is_launch_spent ∷ key (codes "runs_spent") ∷ boolean r.are_runs_spent ∷ key (codes "child") ∷ (said (child_or_null r.child) ++ key (codes "awaited") ∷ (said (awaited_or_null r.awaited) ++ last)))) (count_said r.throttled_until)
    ∙ ap (λ ts. held_tokens r ++ ts) inside ∙ simp append_assoc

moments_said : (f : JobFacts) (rest : List Token) →
    key (codes "moments") ∷ (said (moments_value f.moments f.spawns_from)
    ++ key (codes "demand") ∷ (said (demand_or_null f.demand)
    ++ key (codes "path") ∷ (said (text_or_null f.path) ++ rest))) ≡ moments_tokens f ++ rest
moments_said f rest =
    rw (count_said f.moments.term, count_said f.moments.kill, count_said f.moments.interval, count_said f.spawns_from, demand_said f.demand, text_said f.path) refl

keys_said : (k : JobKeys) (rest : List Token) → key (codes "keys") ∷ (said (keys_value k) ++ rest) ≡ keys_tokens k ++ rest
keys_said k rest =
    rw (
      flag_said k.successful_exit,
      flag_said k.crashed,
      text_said k.path_state.first,
      flag_said k.first_exists,
      flag_said k.path_exists,
      count_said k.start_interval,
      text_said k.watch_paths.first,
      text_said k.queue_directories.first,
      text_said k.errors,
    ) refl

entry_said : (e : Entry) → said (entry_value e) ≡ entry_tokens e
entry_said e = rw (count_said e.minute, count_said e.hour, count_said e.day, count_said e.weekday, count_said e.month) refl

entries_said : (es : List Entry) (rest : List Token) → items_tokens (items_outline (items_of (map entry_value es))) ++ rest ≡ flat_map entry_tokens es ++ end_array ∷ rest
entries_said [] rest = refl
entries_said (e ∷ es) rest =
    append_assoc (said (entry_value e)) (items_tokens (items_outline (items_of (map entry_value es)))) rest
    ∙ ap (λ ts. said (entry_value e) ++ ts) (entries_said es rest)
    ∙ ap (λ ts. ts ++ (flat_map entry_tokens es ++ end_array ∷ rest)) (entry_said e)
    ∙ sym (append_assoc (entry_tokens e) (flat_map entry_tokens es) (end_array ∷ rest))

-- ---- the line

pub line_said : (line : JobLine) → json_tokens (outline (line_value line)) ≡ job_tokens line.job line.calendar
line_said line =
    ap (λ ts. begin_object ∷ key (codes "job") ∷ ts) (object_then (job_members line.job line.calendar) (end_object ∷ []))
    ∙ front_said line.job _
    ∙ ap (λ ts. front_tokens line.job ++ ts) (note_said line.job.note _
    ∙ ap (λ ts. note_tokens line.job.note ++ ts) (reasons_said line.job.facts.reasons _
    ∙ ap (λ ts. reasons_tokens line.job.facts.reasons ++ ts) (moments_said line.job.facts _
    ∙ ap (λ ts. moments_tokens line.job.facts ++ ts) (keys_said line.job.keys _
    ∙ ap (λ ts. keys_tokens line.job.keys ++ ts) (ap (λ ts. key (codes "calendar") ∷ begin_array ∷ ts) (entries_said line.calendar (end_object ∷ end_object ∷ [])))))))
