-- What a load leaves, from its parts.
use Rattle.std.proofs.Common.{◌≡◌, ℕ, Bool, true, false, not, ◌&&◌, List, [], Option, Some, None, refl, sym, ap, subst, ◌∙◌, arith}
use Rattle.std.specs.Prelude.{Ok, is_some, if◌then◌else◌}
use Rattle.std.proofs.lemmas.List.{append-nil}
use Rattle.history_model.specs.declared.Refusal.{Refusal}
use Rattle.history_model.specs.declared.Refusal.TheVariants.{NoMemory, SocketRefused, StoreRefused}
use Rattle.history_model.specs.Labels.{Label}
use Rattle.history_model.specs.Machine.{State, Event, Load}
use Rattle.history_model.specs.Acceptance.{refusal_in, refusal_stored, refused_if}
use Rattle.history_model.specs.Step.{outcome, outcome_by, step, step_by, set_if}
use Rattle.history_model.specs.Described.{Described}
use Rattle.history_model.specs.Definitions.{given, has_sockets}
use Rattle.job_defs.specs.Keys.{def_of}
use Rattle.loaded_jobs.specs.Tables.{Table, Row, Name, IsOnce}
use Rattle.loaded_jobs.specs.StandsFor.{KeepsState}
use Rattle.loaded_jobs.specs.Loads.{refusal_outside, described_in, number_in, new_setting_in}
use Rattle.job_table.specs.LoadOfBytes.{IsReadAndAdmitted, load_of_bytes, given_in}
use Rattle.loaded_jobs.specs.TableOutcomes.{IsSameFor, Means}
use Rattle.loaded_jobs.specs.declared.loading.Ready.{Ready}
use Rattle.child_edge.specs.Calls.{ToldCall}
use Rattle.child_edge.proofs.CallsLemmas.{tells_nothing}
use Rattle.ctl_protocol.specs.declared.request.LoadRequest.{LoadRequest}
use Rattle.ctl_protocol.specs.declared.request.Outside.{Outside}
use Rattle.ctl_protocol.specs.Requests.{unasked}
use Rattle.outside.specs.Asking.{Asks, told_of}
use Rattle.outside.specs.Stores.{Stamp, StoreCall, stamp_if}
use Rattle.outside.proofs.AskLemmas.{told_nothing}
use Rattle.launcher.specs.Journals.{JournalState, Grows}
use Rattle.launcher.specs.HostTurns.{AreNumbered, IsLed, TurnsOf, trace}
use Rattle.launcher.proofs.NumbersLemmas.{AreNamed, rows-named, keeps-numbers, same-numbers}
use Rattle.loaded_jobs.specs.Numbers.{row_names}
use Rattle.launcher.proofs.StoredSettingsLemmas.{load_settings}
use Rattle.launcher.specs.JournaledLines.{load_line}
use Rattle.launcher.specs.LoadTurns.{AsksFor, EndsLoad, LoadTurnOf, Makes, is_memory, label_read, label_written, settings_after, stamps_after, standing}

pub clash : {P : Type 0} (o : Option Refusal) (r : Refusal) → o ≡ None → o ≡ Some r → P
clash {P} o r none some = let no : None ≡ Some r = sym none ∙ some in cc

-- ---- refusals

-- what the table says of a refusal other than want of memory
pub told_unless : (r : Refusal) (P : Type 0) → Means r P → is_memory (Some r) ≡ false → P
told_unless NoMemory P h other = cc
told_unless _ P h other = h

-- nothing is refused if the outside answers well
pub well_answered : (d : Described) (writes_setting : Bool) → refusal_outside d writes_setting true true ≡ None
well_answered d writes_setting = go (has_sockets d) writes_setting where
  go : (h v : Bool) → refused_if (h && not true) SocketRefused (refusal_stored v true) ≡ None
  go true true = refl
  go true false = refl
  go false true = refl
  go false false = refl

-- the outside doesn't answer that memory ran out
pub not_memory : (d : Described) (writes_setting bind store : Bool) → is_memory (refusal_outside d writes_setting bind store) ≡ false
not_memory d writes_setting bind store = go (has_sockets d && not bind) (writes_setting && not store) where
  go : (p q : Bool) → is_memory (refused_if p SocketRefused (refused_if q StoreRefused None)) ≡ false
  go true q = refl
  go false true = refl
  go false false = refl

-- ---- turns

-- an event that is refused is the whole turn
pub nothing_done : (s : State) (e : Event) (line : List ℕ) (new : Table) (r : Refusal) (a : Option (List ToldCall)) (k n : JournalState) → refusal_in s e ≡ Some r → Grows k n line → KeepsState new s → IsLed s →
    TurnsOf s e line (Some r) new (trace a k) (trace a n)
nothing_done s e line new r a k n is noted keeps led = record {
  names = [];
  entries = [];
  tells = tells_nothing a;
  turn = record {
    orders = [];
    calls = refl;
    by_label = sym (append-nil (outcome s e).orders ∙ ap (λ o. (outcome_by o s e).orders) is);
    kept = subst (λ o. KeepsState new (step_by o s e)) (sym is) keeps;
  };
  led = subst (λ o. IsLed (step_by o s e)) (sym is) led;
  replies = ap (λ o. (outcome_by o s e).refusal) is;
  few = omega arith;
  numbers = λ none. let no : Some r ≡ None = none in cc;
  noted = subst (Grows k n) (sym (append-nil line)) noted;
  tellable = tt;
  named = tt;
}

-- names that are those of the rows stand for their jobs
pub named-before : (old : Table) (names : List Name) → IsOnce names → names ≡ row_names old.rows → AreNumbered names old
named-before old names once same = record { once = once; named = subst (λ (x : List Name). AreNamed x old.rows) (sym same) (rows-named old.rows (subst IsOnce same once)) }

-- the same jobs are named by the same names
pub named-alike : (old mid : Table) (names : List Name) → mid.rows ≡ old.rows → AreNumbered names mid → AreNumbered names old
named-alike old mid names same numbers = record { once = numbers.once; named = subst (λ (rows : List Row). AreNamed names rows) same numbers.named }

-- a load that was refused before the outside was asked
pub never_called : (s : State) (load : LoadRequest) (r : Refusal) (old new : Table) (a : Option (List ToldCall)) (t : Option (List StoreCall)) (k n : JournalState) → new.rows ≡ old.rows →
    ((bind store : Bool) → refusal_in s (load_of_bytes load.def load.writes_setting load.force bind store) ≡ Some r) → Grows k n (load_line load unasked) → KeepsState new s → IsLed s →
    LoadTurnOf s load unasked (Some r) (standing old a t k) (standing new a t n)
never_called s load r old new a t k n same is noted keeps led = record {
  job = 0;
  mid = a;
  asks = subst (λ o. AsksFor o (def_of load.def) 0 load.writes_setting s.reading.wall unasked (told_of a t) (told_of a t)) (sym (is true true))
      (record { bind = refl; store = refl; tells = tells_nothing a; stores = told_nothing t });
  turn = nothing_done s (load_of_bytes load.def load.writes_setting load.force true true) (load_line load unasked) new r a k n (is true true) noted keeps led;
  own = λ none. let no : Some r ≡ None = none in cc;
  numbers = λ none. let no : Some r ≡ None = none in cc;
  stays = same-numbers old new same;
}

module _ (s : State) (load : LoadRequest) (outside : Outside) (old mid new : Table) (ready : Ready) (a c : Option (List ToldCall)) (t u : Option (List StoreCall)) (k n : JournalState)
    (admitted : IsReadAndAdmitted old load.def load.writes_setting load.force (described_in ready)) (setting : is_some (new_setting_in ready) ≡ load.writes_setting) (same : IsSameFor old mid) (rows : mid.rows ≡ old.rows) (led : IsLed s) (keeps : KeepsState old s) where
  as_read : Load (Ok (given (described_in ready))) (is_some (new_setting_in ready)) load.force outside.bind outside.store ≡ load_of_bytes load.def load.writes_setting load.force outside.bind outside.store
  as_read = λ i. Load (given_in (sym admitted.read i)) (setting i) load.force outside.bind outside.store

  asks_for : (middle : Option (List ToldCall)) → Asks (number_in ready) (described_in ready) load.writes_setting mid.reading.wall outside (told_of a t) (told_of middle u) →
      AsksFor (refusal_in s (load_of_bytes load.def load.writes_setting load.force true true)) (def_of load.def) (number_in ready) load.writes_setting s.reading.wall outside (told_of a t) (told_of middle u)
  asks_for middle asks =
      subst (λ o. AsksFor o (def_of load.def) (number_in ready) load.writes_setting s.reading.wall outside (told_of a t) (told_of middle u)) (sym (admitted.remains s true true keeps ∙ well_answered (described_in ready) load.writes_setting))
      (subst (λ d. AsksFor None d (number_in ready) load.writes_setting s.reading.wall outside (told_of a t) (told_of middle u)) (sym admitted.read)
      (subst (λ n. Asks (number_in ready) (described_in ready) load.writes_setting n outside (told_of a t) (told_of middle u)) (ap (λ r. r.wall) (same s keeps).reading) asks))

  -- a load that the outside was asked about
  pub load_ended : (refusal : Option Refusal) → EndsLoad ready load.writes_setting mid.reading.wall outside refusal (load_line load outside) (standing mid a t k) (standing new c u n) →
      LoadTurnOf s load outside refusal (standing old a t k) (standing new c u n)
  load_ended None ends =
      let none : refusal_in s (load_of_bytes load.def load.writes_setting load.force outside.bind outside.store) ≡ None = admitted.remains s outside.bind outside.store keeps ∙ sym ends.answer in
      let first = ends.made refl s load.force outside.bind outside.store led (same s keeps) (ap (refusal_in s) as_read ∙ none) in
      let made = subst (λ (x : Event). Makes s x (load_line load outside) ready mid new (trace ends.mid k) (trace c n)) as_read first in
      let before_it : AreNumbered made.turn.names old = named-alike old mid made.turn.names rows made.numbers in
      record {
        job = number_in ready;
        mid = ends.mid;
        asks = asks_for ends.mid ends.asks;
        turn = made.turn;
        own = λ is d read. let both : Ok (described_in ready) ≡ Ok d = sym admitted.read ∙ read in made.own ∙ (cc);
        numbers = λ none. before_it;
        stays = keeps-numbers made.turn.names old new before_it (made.turn.numbers refl);
      }
  load_ended (Some r) ends =
      let refused : refusal_in s (load_of_bytes load.def load.writes_setting load.force outside.bind outside.store) ≡ Some r = admitted.remains s outside.bind outside.store keeps ∙ sym ends.answer in
      let remains = ends.refused r refl in
      record {
        job = number_in ready;
        mid = ends.mid;
        asks = asks_for ends.mid ends.asks;
        turn = subst (λ x. TurnsOf s (load_of_bytes load.def load.writes_setting load.force outside.bind outside.store) (load_line load outside) (Some r) new (trace ends.mid k) (trace x n)) (sym remains.1)
            (nothing_done s (load_of_bytes load.def load.writes_setting load.force outside.bind outside.store) (load_line load outside) new r ends.mid k n refused remains.2 (subst (λ x. KeepsState x s) (sym remains.0) (same s keeps)) led);
        own = λ none. let no : Some r ≡ None = none in cc;
        numbers = λ none. let no : Some r ≡ None = none in cc;
        stays = same-numbers old new (ap (λ (x : Table). x.rows) remains.0 ∙ rows);
      }

-- what the machine then sets is what was stored
pub load_sets : (s : State) (bytes : List ℕ) (writes_setting force : Bool) (outside : Outside) (old : Table) (d : Described) (refusal : Option Refusal) → IsReadAndAdmitted old bytes writes_setting force d → KeepsState old s →
    refusal ≡ refusal_outside d writes_setting outside.bind outside.store → (has_sockets d ≡ false → outside.bind ≡ true) → ((writes_setting && outside.bind) ≡ false → outside.store ≡ true) →
    settings_after refusal s (load_of_bytes bytes writes_setting force outside.bind outside.store) ≡ set_if (writes_setting && (outside.bind && outside.store)) d.label false s.settings
load_sets s bytes writes_setting force outside old d refusal admitted keeps answer unbound unstored =
    let e = load_of_bytes bytes writes_setting force outside.bind outside.store in
    ap (λ b. if b then s.settings else (step s e).settings) (ap is_memory answer ∙ not_memory d writes_setting outside.bind outside.store)
    ∙ load_settings s bytes d writes_setting force outside.bind outside.store admitted.read (admitted.remains s outside.bind outside.store keeps) unbound unstored

-- a request that was refused stored no second
pub unstamped : (label : Option Label) (r : Refusal) (second : ℕ) (stamps : List Stamp) → stamps_after label (Some r) second stamps ≡ stamps
unstamped None r second stamps = refl
unstamped (Some label) r second stamps = refl

-- a load that was accepted stored the second of the setting that it wrote, and a refused one stored none
pub load_stamps : (load : LoadRequest) (outside : Outside) (d : Described) (refusal : Option Refusal) (second : ℕ) (stamps : List Stamp) → def_of load.def ≡ Ok d →
    refusal ≡ refusal_outside d load.writes_setting outside.bind outside.store → (has_sockets d ≡ false → outside.bind ≡ true) →
    stamps_after (label_written load) refusal second stamps ≡ stamp_if (load.writes_setting && (outside.bind && outside.store)) d.label second stamps
load_stamps load outside d refusal second stamps read answer unbound =
    ap (λ r. stamps_after (if load.writes_setting then label_read r else None) refusal second stamps) read
    ∙ ap (λ o. stamps_after (if load.writes_setting then Some d.label else None) o second stamps) answer
    ∙ go load.writes_setting (has_sockets d) outside.bind outside.store unbound where
      go : (w h bind store : Bool) → (h ≡ false → bind ≡ true) → stamps_after (if w then Some d.label else None) (refused_if (h && not bind) SocketRefused (refusal_stored w store)) second stamps ≡ stamp_if (w && (bind && store)) d.label second stamps
      go false h bind store unbound = refl
      go true true false store unbound = refl
      go true true true true unbound = refl
      go true true true false unbound = refl
      go true false true true unbound = refl
      go true false true false unbound = refl
      go true false false store unbound = let no : false ≡ true = unbound refl in cc
