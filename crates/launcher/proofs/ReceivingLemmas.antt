-- The turn of what comes and is an event at once: the outside is first asked nothing.
use Rattle.std.proofs.Common.{◌≡◌, inl, inr, ℕ, true, false, List, [], Option, Some, None, refl, sym, ap, subst, ◌∙◌}
use Rattle.std.specs.Prelude.{Result, Ok, Err, IfOk}
use Rattle.history_model.specs.declared.Refusal.{Refusal}
use Rattle.history_model.specs.declared.Refusal.TheVariants.{NoMemory}
use Rattle.history_model.specs.declared.event.Event as journal
use Rattle.history_model.specs.declared.event.Event.TheVariants as journaled
use Rattle.history_model.specs.declared.event.Setting.{Setting}
use Rattle.history_model.specs.Machine.{State, Event}
use Rattle.history_model.specs.Acceptance.{refusal_in}
use Rattle.history_model.specs.Step.{outcome, step, step_by, taken}
use Rattle.ctl_protocol.specs.declared.request.Request.{Request}
use Rattle.ctl_protocol.specs.declared.request.Request.TheVariants as requests
use Rattle.ctl_protocol.specs.Requests.{event_with, unasked}
use Rattle.ctl_protocol.specs.EventWriter.{event_line}
use Rattle.loaded_jobs.specs.Tables.{Table, Name}
use Rattle.loaded_jobs.specs.StandsFor.{KeepsState}
use Rattle.loaded_jobs.specs.TableOutcomes.{UnlessMemory}
use Rattle.loaded_jobs.specs.Loads.{refused_with}
use Rattle.job_table.specs.Taking.{machine_event}
use Rattle.outside.specs.Stores.{StoreCall}
use Rattle.outside.proofs.AskLemmas.{told_nothing}
use Rattle.outside.specs.Asking.{Told, told_of}
use Rattle.launcher.specs.Journals.{JournalState, Grows}
use Rattle.launcher.proofs.JournalsLemmas.{grows_nothing}
use Rattle.launcher.specs.HostTurns.{AreNumbered, NamesLabel, TurnsOf, Turns, IsUncalled, Trace, trace}
use Rattle.launcher.specs.LoadTurns.{AsksNothing, is_memory, standing}
use Rattle.launcher.specs.Accepting.{is_load}
use Rattle.launcher.specs.Inputs.{Incoming, asked, event_of, happened}
use Rattle.launcher.specs.Hosts.{AsksOutside, IsOwn, Receives, label_asked}
use Rattle.launcher.specs.AtOnce.{IsAtOnce, NamesStay, is_happening, is_prompt}
use Rattle.launcher.proofs.HostsLemmas.{receives, is_want}
use Rattle.launcher.proofs.LoadAskingLemmas.{load_words}
use Rattle.child_edge.specs.Calls.{ToldCall}
use Rattle.child_edge.proofs.CallsLemmas.{tells_nothing}

-- ---- what is heard at once

-- an event that writes no setting, whether it is refused or not
still : (s : State) (e : Event) → (taken s e).settings ≡ s.settings → (step s e).settings ≡ s.settings
still s e same = go (refusal_in s e) where
  go : (o : Option Refusal) → (step_by o s e).settings ≡ s.settings
  go (Some refusal) = refl
  go None = same

once : (i : Incoming) (e : journal.Event) → e ≡ event_of unasked i → ((s : State) (before after : Told) → AsksNothing unasked before after → AsksOutside s i 0 unasked before after) → ((names : List Name) → IsOwn i names 0) →
    label_asked (Some i) ≡ None → is_load (Some i) ≡ false → ((s : State) → (taken s (machine_event (event_of unasked i))).settings ≡ s.settings) → NamesLabel (machine_event (event_of unasked i)) → NamesStay (event_of unasked i) → IsAtOnce i e
once i e is asks own unset unloaded settings label names = subst (IsAtOnce i) (sym is) (record {
  same = refl;
  asks = asks;
  own = own;
  unset = unset;
  unloaded = unloaded;
  settings = λ s. still s (machine_event (event_of unasked i)) (settings s);
  label = label;
  names = names;
})

-- what a client asks, if nothing is asked of the outside for it
pub prompt : (r : Request) (e : journal.Event) → is_prompt r ≡ true → e ≡ event_with unasked r → IsAtOnce (asked r) e
prompt (requests.Load load) e is same = cc
prompt (requests.Unload job true) e is same = cc
prompt (requests.Unload job false) e is same = once (asked (requests.Unload job false)) e same (λ s before after none. none) (λ names. tt) refl refl (λ s. refl) tt (λ answer old new names. inl names)
prompt (requests.Set job disabled) e is same = cc
prompt (requests.Ask job ask) e is same = once (asked (requests.Ask job ask)) e same (λ s before after none. none) (λ names. tt) refl refl (λ s. refl) tt (λ answer old new names. inl names)
prompt requests.List e is same = once (asked requests.List) e same (λ s before after none. none) (λ names. tt) refl refl (λ s. refl) tt (λ answer old new names. inr (names, λ s. refl))
prompt (requests.Print job) e is same = once (asked (requests.Print job)) e same (λ s before after none. none) (λ names. tt) refl refl (λ s. refl) tt (λ answer old new names. inr (names, λ s. refl))
prompt requests.Shutdown e is same = once (asked requests.Shutdown) e same (λ s before after none. none) (λ names. tt) refl refl (λ s. refl) tt (λ answer old new names. inl names)

-- and what happens
pub happening : (e : journal.Event) → is_happening e ≡ true → IsAtOnce (happened e) e
happening (journaled.Clock at) is = once (happened (journaled.Clock at)) _ refl (λ s before after none. none) (λ names. tt) refl refl (λ s. refl) tt (λ answer old new names. inl names)
happening (journaled.Saw path obs) is = once (happened (journaled.Saw path obs)) _ refl (λ s before after none. none) (λ names. tt) refl refl (λ s. refl) tt (λ answer old new names. inl names)
happening (journaled.OfJob job item) is = once (happened (journaled.OfJob job item)) _ refl (λ s before after none. none) (λ names. tt) refl refl (λ s. refl) tt (λ answer old new names. inl names)
happening (journaled.Load def writes_setting force bind store) is = cc
happening (journaled.Unload job writes_setting store) is = cc
happening (journaled.Set job disabled store) is = cc
happening journaled.List is = cc
happening (journaled.Print job) is = cc
happening journaled.Shutdown is = cc

-- ---- the turn

unless : (P : Type 0) (answer : Result (List ℕ) Refusal) → UnlessMemory answer P → is_memory (refused_with answer) ≡ false → P
unless P (Ok text) holds other = holds
unless P (Err NoMemory) holds other = cc
unless P (Err _) holds other = holds

-- a turn that knows the jobs that were loaded before it under their numbers
abbrev Counted : State → journal.Event → Option Refusal → Table → Table → Trace → Trace → Type 0
Counted s e reply old new before after = (turn : TurnsOf s (machine_event e) (event_line e) reply new before after) × (reply ≡ None → AreNumbered turn.names old)

module _ (i : Incoming) (e : journal.Event) (is : IsAtOnce i e) where
  pub received_once : (answer : Result (List ℕ) Refusal) (words : List ℕ) (old new : Table) (a c : Option (List ToldCall)) (t : Option (List StoreCall)) (k n : JournalState) (before : List Setting → Type 0) →
      (NamesLabel (machine_event e) → NamesStay e → UnlessMemory answer (Turns (machine_event e) (event_line e) (refused_with answer) old new (trace a k) (trace c n))) →
      IfOk answer (λ text. (s : State) → KeepsState old s → (outcome s (machine_event e)).text ≡ text) → IfOk answer (λ text. words ≡ text) → (answer ≡ Err NoMemory → IsUncalled old new a c × (n ≡ k)) →
      Receives (Some i) (refused_with answer) words (standing old a t k) (standing new c t n) before before
  received_once answer words old new a c t k n before turned said told none =
      receives i (refused_with answer) words (standing old a t k) (standing new c t n) before before
      (λ memory.
      let left = none (is_want answer memory) in (
        record {
          untouched = record { same = left.0.same; rows = left.0.rows; tells = left.0.tells; stores = told_nothing t };
          silent = subst (λ (x : JournalState). Grows k x []) (sym left.1) (grows_nothing k);
          stored = λ s keeps holds. holds;
        },
        left.1,
      ))
      (λ other s led keeps.
      let whole = unless (Turns (machine_event e) (event_line e) (refused_with answer) old new (trace a k) (trace c n)) answer (turned is.label is.names) other s led keeps in
      let counted = subst (λ (l : journal.Event). Counted s l (refused_with answer) old new (trace a k) (trace c n)) (sym is.same) (whole.0, whole.1) in
      record {
        outside = unasked;
        job = 0;
        mid = a;
        asks = is.asks s (told_of a t) (told_of a t) (record { bind = refl; store = refl; tells = tells_nothing a; stores = told_nothing t });
        turn = counted.0;
        own = λ accepted. is.own counted.0.names;
        numbers = counted.1;
        stays = whole.2;
        text = λ accepted.
            ap (λ (l : journal.Event). (outcome s (machine_event l)).text) is.same
            ∙ load_words answer words (λ s. KeepsState old s) (λ s. (outcome s (machine_event e)).text) said told accepted s keeps;
        stored = subst before (sym (ap (λ (l : journal.Event). (step s (machine_event l)).settings) is.same ∙ is.settings s));
      })
