-- The line of an event, and of a header, is read as it.
use Rattle.std.proofs.Common.{◌≡◌, ℕ, pos, negsuc, List, [], ◌∷◌, Bool, true, false, Some, refl, arith}
use Rattle.std.specs.Prelude.{IsUtf8}
use Rattle.std.specs.List.{AllByRecursion, list_all}
use Rattle.std.proofs.lemmas.Bool.{and_parts}
use Rattle.json.proofs.Printed.Utf8.{are_ascii, IsUtf8-are_ascii}
use Rattle.serde_json.specs.Data.{Members, no_members, put}
use Rattle.serde_json.specs.Written.{compact_text}
use Rattle.history_model.specs.declared.Ended.TheVariants.{Code, Signal}
use Rattle.history_model.specs.declared.event.Event.{Event}
use Rattle.history_model.specs.declared.event.Event.TheVariants as events
use Rattle.history_model.specs.declared.event.JobItem.TheVariants as happens
use Rattle.history_model.specs.declared.Ask.TheVariants as asks
use Rattle.history_model.specs.declared.Answer.TheVariants as answers
use Rattle.ctl_protocol.specs.declared.members.Form.TheVariants as forms
use Rattle.ctl_protocol.specs.Members.{tag_of}
use Rattle.ctl_protocol.specs.EventLines.{event_at}
use Rattle.ctl_protocol.specs.Objects.{Plain, text, flag, count, whole, plain_data, with_members}
use Rattle.ctl_protocol.specs.EventWriter.{name_of, line_members, answer_members, event_object}
use Rattle.ctl_protocol.proofs.EventWriterLemmas.{event_back}
use Rattle.launcher.specs.Writable.{IsFit, IsWritable}
use Rattle.launcher_laws.proofs.ReadBackLemmas.{IsFitData, AreFit, again, put_fit, text_back}

-- ---- members that are fit

plain_fit : (p : Plain) → IsFit p → IsFitData (plain_data p)
plain_fit (text s) h = h
plain_fit (flag b) h = tt
plain_fit (count n) h = h
plain_fit (whole (pos n)) h = omega (arith, h)
plain_fit (whole (negsuc n)) h = h

abbrev pub are_plain : List (List ℕ × Plain) → Bool
are_plain members = list_all (λ m. are_ascii m.0) members

pub with_fit : (ms : Members) (members : List (List ℕ × Plain)) → AllByRecursion (λ m. IsUtf8 m.0) members → AllByRecursion (λ m. IsFit m.1) members → AreFit ms → AreFit (with_members ms members)
with_fit ms [] keys values h = h
with_fit ms (m ∷ more) keys values h = with_fit (put m.0 (plain_data m.1) ms) more keys.1 values.1 (put_fit m.0 (plain_data m.1) ms keys.0 (plain_fit m.1 values.0) h)

pub plain_keys : (members : List (List ℕ × Plain)) → are_plain members ≡ true → AllByRecursion (λ m. IsUtf8 m.0) members
plain_keys [] h = tt
plain_keys (m ∷ more) h = let p = and_parts (are_ascii m.0) (are_plain more) h in (IsUtf8-are_ascii m.0 p.0, plain_keys more p.1)

-- ---- events

plain_name : (e : Event) → are_ascii (name_of e) ≡ true
plain_name (events.Load def writes_setting force bind store) = refl
plain_name (events.Unload job writes_setting store) = refl
plain_name (events.Set job true store) = refl
plain_name (events.Set job false store) = refl
plain_name events.List = refl
plain_name (events.Print job) = refl
plain_name events.Shutdown = refl
plain_name (events.Clock at) = refl
plain_name (events.Saw path obs) = refl
plain_name (events.OfJob job (happens.Asked asks.Start)) = refl
plain_name (events.OfJob job (happens.Asked asks.Stop)) = refl
plain_name (events.OfJob job (happens.Asked (asks.Kickstart kills_first))) = refl
plain_name (events.OfJob job (happens.Asked asks.Unload)) = refl
plain_name (events.OfJob job (happens.Asked asks.Shutdown)) = refl
plain_name (events.OfJob job (happens.Came conn)) = refl
plain_name (events.OfJob job (happens.Left conn)) = refl
plain_name (events.OfJob job (happens.Answered (answers.Spawned run pid))) = refl
plain_name (events.OfJob job (happens.Answered (answers.SpawnRefused run))) = refl
plain_name (events.OfJob job (happens.Answered (answers.Termed run ok))) = refl
plain_name (events.OfJob job (happens.Answered (answers.Killed run ok))) = refl
plain_name (events.OfJob job (happens.Ended run how)) = refl
plain_name (events.OfJob job (happens.WaitRefused run)) = refl

plain_lines : (e : Event) → (are_plain (line_members e) ≡ true) × (are_plain (answer_members e) ≡ true)
plain_lines (events.Load def writes_setting force bind store) = (refl, refl)
plain_lines (events.Unload job writes_setting store) = (refl, refl)
plain_lines (events.Set job disabled store) = (refl, refl)
plain_lines events.List = (refl, refl)
plain_lines (events.Print job) = (refl, refl)
plain_lines events.Shutdown = (refl, refl)
plain_lines (events.Clock at) = (refl, refl)
plain_lines (events.Saw path obs) = (refl, refl)
plain_lines (events.OfJob job (happens.Asked asks.Start)) = (refl, refl)
plain_lines (events.OfJob job (happens.Asked asks.Stop)) = (refl, refl)
plain_lines (events.OfJob job (happens.Asked (asks.Kickstart kills_first))) = (refl, refl)
plain_lines (events.OfJob job (happens.Asked asks.Unload)) = (refl, refl)
plain_lines (events.OfJob job (happens.Asked asks.Shutdown)) = (refl, refl)
plain_lines (events.OfJob job (happens.Came conn)) = (refl, refl)
plain_lines (events.OfJob job (happens.Left conn)) = (refl, refl)
plain_lines (events.OfJob job (happens.Answered (answers.Spawned run pid))) = (refl, refl)
plain_lines (events.OfJob job (happens.Answered (answers.SpawnRefused run))) = (refl, refl)
plain_lines (events.OfJob job (happens.Answered (answers.Termed run ok))) = (refl, refl)
plain_lines (events.OfJob job (happens.Answered (answers.Killed run ok))) = (refl, refl)
plain_lines (events.OfJob job (happens.Ended run (Code n))) = (refl, refl)
plain_lines (events.OfJob job (happens.Ended run (Signal n))) = (refl, refl)
plain_lines (events.OfJob job (happens.WaitRefused run)) = (refl, refl)

answers_fit : (e : Event) → AllByRecursion (λ m. IsFit m.1) (answer_members e)
answers_fit (events.Load def writes_setting force bind store) = (tt, (tt, tt))
answers_fit (events.Unload job writes_setting store) = (tt, tt)
answers_fit (events.Set job disabled store) = (tt, tt)
answers_fit events.List = tt
answers_fit (events.Print job) = tt
answers_fit events.Shutdown = tt
answers_fit (events.Clock at) = tt
answers_fit (events.Saw path obs) = tt
answers_fit (events.OfJob job item) = tt

-- the keys of a line are written in order
in_order : (e : Event) → again (event_object forms.Event e) ≡ event_object forms.Event e
in_order (events.Load def writes_setting force bind store) = refl
in_order (events.Unload job writes_setting store) = refl
in_order (events.Set job true store) = refl
in_order (events.Set job false store) = refl
in_order events.List = refl
in_order (events.Print job) = refl
in_order events.Shutdown = refl
in_order (events.Clock at) = refl
in_order (events.Saw path obs) = refl
in_order (events.OfJob job (happens.Asked asks.Start)) = refl
in_order (events.OfJob job (happens.Asked asks.Stop)) = refl
in_order (events.OfJob job (happens.Asked (asks.Kickstart kills_first))) = refl
in_order (events.OfJob job (happens.Asked asks.Unload)) = refl
in_order (events.OfJob job (happens.Asked asks.Shutdown)) = refl
in_order (events.OfJob job (happens.Came conn)) = refl
in_order (events.OfJob job (happens.Left conn)) = refl
in_order (events.OfJob job (happens.Answered (answers.Spawned run pid))) = refl
in_order (events.OfJob job (happens.Answered (answers.SpawnRefused run))) = refl
in_order (events.OfJob job (happens.Answered (answers.Termed run ok))) = refl
in_order (events.OfJob job (happens.Answered (answers.Killed run ok))) = refl
in_order (events.OfJob job (happens.Ended run (Code n))) = refl
in_order (events.OfJob job (happens.Ended run (Signal n))) = refl
in_order (events.OfJob job (happens.WaitRefused run)) = refl

event_fit : (e : Event) → AllByRecursion (λ m. IsFit m.1) (line_members e) → IsFitData (event_object forms.Event e)
event_fit e fit =
    let tagged = (tag_of forms.Event, text (name_of e)) ∷ [] in
    let tag_fit : AreFit (with_members no_members tagged) =
    with_fit no_members tagged (IsUtf8-are_ascii (tag_of forms.Event) refl, tt) (IsUtf8-are_ascii (name_of e) (plain_name e), tt) tt in
    with_fit (with_members (with_members no_members tagged) (line_members e)) (answer_members e) (plain_keys (answer_members e) (plain_lines e).1) (answers_fit e)
    (with_fit (with_members no_members tagged) (line_members e) (plain_keys (line_members e) (plain_lines e).0) fit tag_fit)

-- the line of an event is read as it
pub event_read : (e : Event) → IsWritable e → event_at (compact_text (event_object forms.Event e)) ≡ Some e
event_read e told =
    event_back e (event_object forms.Event e) refl (λ shallow. text_back (event_object forms.Event e) (event_fit e told.fit) (in_order e) shallow) told.writable
