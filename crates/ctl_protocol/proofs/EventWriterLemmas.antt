-- What was written for an event is read as that event.
use Rattle.std.proofs.Common.{◌≡◌, ℕ, ◌^◌, List, [], ◌∷◌, Bool, true, false, ◌&&◌, ◌||◌, ◌==◌, not, length, nat_lt, nat_le, Some, None, refl, sym, ap, ◌∙◌, subst, ◌≤◌, Result, Ok, Err, if◌then◌else◌, true≢false}
use Rattle.std.specs.Prelude.{OnOk}
use Rattle.std.specs.List.{list_any}
use Rattle.serde_json.specs.Data.{Data, depth}
use Rattle.serde_json.specs.Read.{max_depth}
use Rattle.serde_json.specs.Written.{compact_text}
use Rattle.json_kinds.specs.Json.{json_in}
use Rattle.history_model.specs.Labels.{is_label, is_forbidden}
use Rattle.history_model.specs.declared.Ended.TheVariants.{Code, Signal}
use Rattle.history_model.specs.declared.event.Event.{Event}
use Rattle.history_model.specs.declared.event.Event.TheVariants as events
use Rattle.history_model.specs.declared.event.JobItem.TheVariants as happens
use Rattle.history_model.specs.declared.Ask.TheVariants as asks
use Rattle.history_model.specs.declared.Answer.TheVariants as answers
use Rattle.ctl_protocol.specs.declared.members.Form.TheVariants as forms
use Rattle.ctl_protocol.specs.declared.request.Request.{Request}
use Rattle.ctl_protocol.specs.declared.request.Request.TheVariants as requests
use Rattle.ctl_protocol.specs.Requests.{event_with, unasked}
use Rattle.ctl_protocol.specs.Targets.{is_slash, behind_domain, label_named}
use Rattle.ctl_protocol.specs.Members.{◌>>=◌, text_key, number_key, flag_key, flag_or, label_key, target_key, has_only}
use Rattle.ctl_protocol.specs.EventLines.{load_shape, unload_shape, job_shape, target_shape, kickstart_shape, bare_shape, asked_shape, answers_in, answered_shape, clock_shape, observation_keys, has_saw_keys, saw_shape, connection_shape, pid_key, spawned_shape, run_shape, answer_shape, byte_key, end_key, ended_shape, journal_shape, event_shape, request_shape_of, event_at, request_at}
use Rattle.ctl_protocol.specs.EventWriter.{name_of, line_members, answer_members, event_object, request_object, is_writable, is_request}
use Rattle.ctl_protocol.proofs.ObjectsLemmas.{line_depth}
use Rattle.history_model.proofs.BooleanLemmas.{and-left, and-right, false-or, not-true, or-false-first, or-false-second}

pub kept : {X : Type 0} (b : Bool) (x : X) → b ≡ true → (if b then Some x else None) ≡ Some x
kept true x h = refl
kept false x h = absurd (true≢false (sym h))

slash_forbidden : (b : ℕ) → is_forbidden b ≡ false → is_slash b ≡ false
slash_forbidden b h = or-false-first (is_slash b) (nat_lt b 32) (or-false-first (is_slash b || nat_lt b 32) (b == 127) h)

no_slash : (text : List ℕ) → list_any is_forbidden text ≡ false → list_any is_slash text ≡ false
no_slash [] h = refl
no_slash (b ∷ text) h =
    false-or (is_slash b) (list_any is_slash text) (slash_forbidden b (or-false-first (is_forbidden b) (list_any is_forbidden text) h)) (no_slash text (or-false-second (is_forbidden b) (list_any is_forbidden text) h))

label_alone : (job : List ℕ) → is_label job ≡ true → list_any is_slash job ≡ false
label_alone job h = no_slash job (not-true (list_any is_forbidden job) (and-right (nat_lt 0 (length job) && nat_le (length job) 255) (not (list_any is_forbidden job)) h))

-- a label is a target that names itself
pub named : (job : List ℕ) → is_label job ≡ true → label_named job ≡ Some job
unfolding label_named behind_domain
named job h = rw (label_alone job h) (kept (is_label job) job h)

pub journal_shape_back : (e : Event) → is_writable e ≡ true → event_shape (event_object forms.Event e) ≡ Some e
unfolding event_shape journal_shape answered_shape answers_in asked_shape load_shape unload_shape job_shape target_shape kickstart_shape bare_shape clock_shape observation_keys has_saw_keys saw_shape connection_shape pid_key spawned_shape run_shape answer_shape byte_key end_key ended_shape text_key number_key flag_key flag_or label_key target_key has_only
journal_shape_back (events.Load def writes_setting force bind store) h = refl
journal_shape_back (events.Unload job writes_setting store) h = rw (kept (is_label job) job h) refl
journal_shape_back (events.Set job true store) h = rw (named job h) refl
journal_shape_back (events.Set job false store) h = rw (named job h) refl
journal_shape_back events.List h = refl
journal_shape_back (events.Print job) h = rw (named job h) refl
journal_shape_back events.Shutdown h = refl
journal_shape_back (events.Clock at) h = refl
journal_shape_back (events.Saw path obs) h = refl
journal_shape_back (events.OfJob job (happens.Asked asks.Start)) h = rw (kept (is_label job) job (and-left (is_label job) _ h)) refl
journal_shape_back (events.OfJob job (happens.Asked asks.Stop)) h = rw (kept (is_label job) job (and-left (is_label job) _ h)) refl
journal_shape_back (events.OfJob job (happens.Asked (asks.Kickstart kills_first))) h = rw (named job (and-left (is_label job) _ h)) refl
journal_shape_back (events.OfJob job (happens.Asked asks.Unload)) h = absurd (true≢false (sym (and-right (is_label job) _ h)))
journal_shape_back (events.OfJob job (happens.Asked asks.Shutdown)) h = absurd (true≢false (sym (and-right (is_label job) _ h)))
journal_shape_back (events.OfJob job (happens.Came conn)) h = rw (kept (is_label job) job (and-left (is_label job) _ h)) refl
journal_shape_back (events.OfJob job (happens.Left conn)) h = rw (kept (is_label job) job (and-left (is_label job) _ h)) refl
journal_shape_back (events.OfJob job (happens.Answered (answers.Spawned run pid))) h =
    rw (kept (is_label job) job (and-left (is_label job) _ h), kept (nat_lt 0 pid && nat_lt pid (2 ^ 32)) pid (and-right (is_label job) _ h)) refl
journal_shape_back (events.OfJob job (happens.Answered (answers.SpawnRefused run))) h = rw (kept (is_label job) job (and-left (is_label job) _ h)) refl
journal_shape_back (events.OfJob job (happens.Answered (answers.Termed run ok))) h = rw (kept (is_label job) job (and-left (is_label job) _ h)) refl
journal_shape_back (events.OfJob job (happens.Answered (answers.Killed run ok))) h = rw (kept (is_label job) job (and-left (is_label job) _ h)) refl
journal_shape_back (events.OfJob job (happens.Ended run (Code n))) h =
    rw (kept (is_label job) job (and-left (is_label job) _ h), kept (nat_lt n 256) n (and-right (is_label job) _ h)) refl
journal_shape_back (events.OfJob job (happens.Ended run (Signal n))) h =
    rw (kept (is_label job) job (and-left (is_label job) _ h), kept (nat_lt n 256) n (and-right (is_label job) _ h)) refl
journal_shape_back (events.OfJob job (happens.WaitRefused run)) h = rw (kept (is_label job) job (and-left (is_label job) _ h)) refl

pub request_shape_back : (r : Request) → is_request r ≡ true → request_shape_of (request_object r) ≡ Some r
unfolding request_shape_of asked_shape load_shape unload_shape job_shape target_shape kickstart_shape bare_shape text_key flag_or label_key target_key has_only
request_shape_back (requests.Load load) h = refl
request_shape_back (requests.Unload job writes_setting) h = rw (kept (is_label job) job h) refl
request_shape_back (requests.Set job true) h = rw (named job h) refl
request_shape_back (requests.Set job false) h = rw (named job h) refl
request_shape_back requests.List h = refl
request_shape_back (requests.Print job) h = rw (named job h) refl
request_shape_back requests.Shutdown h = refl
request_shape_back (requests.Ask job asks.Start) h = rw (kept (is_label job) job (and-left (is_label job) _ h)) refl
request_shape_back (requests.Ask job asks.Stop) h = rw (kept (is_label job) job (and-left (is_label job) _ h)) refl
request_shape_back (requests.Ask job (asks.Kickstart kills_first)) h = rw (named job (and-left (is_label job) _ h)) refl
request_shape_back (requests.Ask job asks.Unload) h = absurd (true≢false (sym (and-right (is_label job) _ h)))
request_shape_back (requests.Ask job asks.Shutdown) h = absurd (true≢false (sym (and-right (is_label job) _ h)))

-- ---- whole lines

-- the text of a value that is not deep is read as that value
abbrev pub IsRead : Data → Type 0
IsRead d = depth d ≤ max_depth → json_in (compact_text d) ≡ Some d

pub read_at : (d e : Data) → d ≡ e → depth e ≤ max_depth → IsRead d → json_in (compact_text e) ≡ Some e
read_at d e same shallow read = subst IsRead same read shallow

pub event_back : (e : Event) (d : Data) → d ≡ event_object forms.Event e → IsRead d → is_writable e ≡ true → event_at (compact_text (event_object forms.Event e)) ≡ Some e
unfolding event_at
event_back e d same read h =
    ap (λ o. o >>= event_shape) (read_at d (event_object forms.Event e) same (line_depth forms.Event (name_of e) (line_members e) (answer_members e)) read) ∙ journal_shape_back e h

pub request_back : (r : Request) (d : Data) → d ≡ request_object r → IsRead d → is_request r ≡ true → request_at (compact_text (request_object r)) ≡ Some r
unfolding request_at
request_back r d same read h =
    let e : Event = event_with unasked r in
    ap (λ o. o >>= request_shape_of) (read_at d (request_object r) same (line_depth forms.Request (name_of e) (line_members e) (answer_members e)) read) ∙ request_shape_back r h

pub on_ok : {X E : Type 0} {P Q : Type 0} (r : Result X E) → (P → Q) → OnOk r P → OnOk r Q
on_ok (Ok x) f p = f p
on_ok (Err e) f p = tt
