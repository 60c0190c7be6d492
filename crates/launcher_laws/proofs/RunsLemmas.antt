-- Turns of a launcher, one after another, are one run of the machine.
use Rattle.std.proofs.Common.{◌≡◌, inl, inr, ℕ, Bool, true, false, List, [], ◌∷◌, ◌++◌, map, Option, Some, None, refl, sym, ap, ◌∙◌, subst}
use Rattle.std.specs.List.{flat_map}
use Rattle.std.specs.Io.KnownBytes.{Appends}
use Rattle.std.proofs.KnownBytes.{Appends-nil, Appends-trans}
use Rattle.std.proofs.lemmas.Grind.{flat_map-append}
use Rattle.std.proofs.lemmas.List.{map-append}
use Rattle.history_model.specs.declared.Answer.{Answer}
use Rattle.history_model.specs.declared.event.Event as journal
use Rattle.history_model.specs.declared.event.Setting.{Setting}
use Rattle.history_model.specs.Items.{Answered}
use Rattle.history_model.specs.Labels.{Label}
use Rattle.history_model.specs.Machine.{State, Event, OfJob}
use Rattle.history_model.specs.Step.{Outcome, outcome, step, run, outcomes}
use Rattle.loaded_jobs.specs.Tables.{Table, Name, label_of}
use Rattle.loaded_jobs.specs.StandsFor.{KeepsState}
use Rattle.outside.specs.declared.pending_answer.PendingAnswer.{PendingAnswer}
use Rattle.outside.specs.Orders.{answers_in}
use Rattle.ctl_protocol.specs.EventWriter.{event_line}
use Rattle.launcher.specs.declared.journal.Phase.{Phase}
use Rattle.launcher.specs.declared.journal_writer.Cause.{Cause}
use Rattle.launcher.specs.declared.journal.Phase.TheVariants.{Open, Closed, Reported}
use Rattle.launcher.specs.Journals.{JournalState, Grows, GrowsIn, reported}
use Rattle.launcher.specs.JournaledLines.{journaled_answer, answer_texts}
use Rattle.launcher.specs.HostTurns.{IsLed, answer_event, answer_events}
use Rattle.launcher.proofs.StoredSettingsLemmas.{turn_settings}
use Rattle.launcher.specs.LoadTurns.{is_memory}
use Rattle.job_table.specs.Taking.{machine_event}
use Rattle.ctl_protocol.specs.Requests.{unasked}
use Rattle.launcher.specs.Inputs.{Incoming, event_of}
use Rattle.launcher.specs.Hosts.{HostTurnOf, IsSpared, ReceivesBy}
use Rattle.launcher.specs.Writable.{IsWritable, IsWritableIf}
use Rattle.launcher_laws.specs.TurnRuns.{answer_told, Snapshot, Turn, IsBetween, WasReceived, AreTurns, IsPartOf, AreParts, Part, outcomes_in, events_in as parts_events}

-- ---- runs in two parts

run_append : (xs ys : List Event) (s : State) → run (xs ++ ys) s ≡ run ys (run xs s)
run_append [] ys s = refl
run_append (x ∷ xs) ys s = run_append xs ys (step s x)

outcomes_append : (xs ys : List Event) (s : State) → outcomes (xs ++ ys) s ≡ outcomes xs s ++ outcomes ys (run xs s)
outcomes_append [] ys s = refl
outcomes_append (x ∷ xs) ys s = ap (λ l. outcome s x ∷ l) (outcomes_append xs ys (step s x))

-- ---- the events of a turn, as the journal has them

answer_is : (job : Label) (answer : Answer) → machine_event (journaled_answer job answer) ≡ OfJob job (Answered answer)
answer_is job answer = refl

answers_are : (names : List Name) (ps : List PendingAnswer) → map machine_event (map (answer_told names) ps) ≡ map (answer_event names) ps
answers_are names [] = refl
answers_are names (p ∷ ps) = λ i. answer_is (label_of names p.job) p.answer i ∷ answers_are names ps i

answer_lines : (names : List Name) (ps : List PendingAnswer) → flat_map event_line (map (answer_told names) ps) ≡ answer_texts names ps
answer_lines names [] = refl
answer_lines names (p ∷ ps) = ap (λ l. event_line (answer_told names p) ++ l) (answer_lines names ps)

-- ---- one turn

-- what a turn was for the machine s
pub record Was {T : Type 0} (holds : T → List Setting → Type 0) (s : State) (turn : Turn T) : Type 0 where
  pub events : List journal.Event
  pub outs : List Outcome
  pub is_part : IsPartOf turn (events, outs)
  pub all : outs ≡ outcomes (map machine_event events) s
  pub led : IsLed (run (map machine_event events) s)
  pub kept : KeepsState turn.after.stands.table (run (map machine_event events) s)
  pub held : holds turn.before.store s.settings → holds turn.after.store (run (map machine_event events) s).settings
  pub noted : Grows turn.before.stands.journal turn.after.stands.journal (flat_map event_line events)

module _ {T : Type 0} (holds : T → List Setting → Type 0) (s : State) (turn : Turn T) where
  spared_was : IsLed s → KeepsState turn.before.stands.table s → IsPartOf turn ([], []) → IsSpared turn.before.stands turn.after.stands (holds turn.before.store) (holds turn.after.store) → Was holds s turn
  spared_was led keeps quiet spared = record {
    events = [];
    outs = [];
    is_part = quiet;
    all = refl;
    led = led;
    kept = spared.untouched.same s keeps;
    held = spared.stored s keeps;
    noted = spared.silent;
  }

  turned_was : (incoming : Incoming) → turn.incoming ≡ Some incoming → IsWritable (event_of unasked incoming) → HostTurnOf s incoming turn.refusal turn.words turn.before.stands turn.after.stands (holds turn.before.store) (holds turn.after.store) → Was holds s turn
  turned_was incoming came writable t =
      let first = event_of t.outside incoming in
      let input = machine_event first in
      let names = t.turn.names in
      let ps = answers_in t.turn.entries in
      let same : input ∷ answer_events names t.turn.entries ≡ map machine_event (first ∷ map (answer_told names) ps) = ap (λ l. input ∷ l) (sym (answers_are names ps)) in
      record {
        events = first ∷ map (answer_told names) ps;
        outs = outcomes (input ∷ answer_events names t.turn.entries) s;
        is_part = inr (record {
          incoming = incoming;
          came = came;
          writable = writable;
          outside = t.outside;
          answers = map (answer_told names) ps;
          first = refl;
          reply = outcome s input;
          others = outcomes (answer_events names t.turn.entries) (step s input);
          all = refl;
          refusal = t.turn.replies;
          words = t.text;
          names = names;
          orders = t.turn.turn.orders;
          by_label = t.turn.turn.by_label;
          mid = t.mid;
          entries = t.turn.entries;
          tells = t.turn.tells;
          calls = t.turn.turn.calls;
          told = refl;
          tellable = t.turn.tellable;
          named = t.turn.named;
        });
        all = ap (λ es. outcomes es s) same;
        led = subst (λ es. IsLed (run es s)) same t.turn.led;
        kept = subst (λ es. KeepsState turn.after.stands.table (run es s)) same t.turn.turn.kept;
        held = λ held. subst (holds turn.after.store) (sym (turn_settings s input names t.turn.entries) ∙ ap (λ es. (run es s).settings) same) (t.stored held);
        noted = subst (λ l. Grows turn.before.stands.journal turn.after.stands.journal (event_line first ++ l)) (sym (answer_lines names ps)) t.turn.noted;
      }

  was : IsLed s → KeepsState turn.before.stands.table s → WasReceived holds turn → Was holds s turn
  was led keeps received = go (is_memory turn.refusal) turn.incoming refl refl received.0 where
    go : (b : Bool) (incoming : Option Incoming) → is_memory turn.refusal ≡ b → turn.incoming ≡ incoming →
        ReceivesBy b incoming turn.refusal turn.words turn.before.stands turn.after.stands (holds turn.before.store) (holds turn.after.store) → Was holds s turn
    go true incoming memory is received' = spared_was led keeps (inl (inl memory, refl, refl)) received'.0
    go false None memory is received' = spared_was led keeps (inl (inr (is, received'.0), refl, refl)) received'.1
    go false (Some incoming) memory is received' = turned_was incoming is (subst IsWritableIf is (received.1 memory)) (received' s led keeps)

-- ---- the journal, while it is open

-- an open journal was open before, and grew by all of the text
pub record IsOpenBy (old new : JournalState) (text : List ℕ) : Type 0 where
  pub was : old.phase ≡ Open
  pub grew : Appends old.bytes new.bytes text

grown_in : (p q : Phase) (old new : JournalState) (text : List ℕ) → old.phase ≡ p → q ≡ Open → GrowsIn p q old new text → IsOpenBy old new text
grown_in Open Open old new text was still grew = record { was = was; grew = grew }
grown_in Open Closed old new text was still grew = cc
grown_in Open Reported old new text was still grew = cc
grown_in Closed Open old new text was still grew = absurd grew
grown_in Closed Closed old new text was still grew = cc
grown_in Closed Reported old new text was still grew = cc
grown_in Reported Open old new text was still grew = absurd grew
grown_in Reported Closed old new text was still grew = cc
grown_in Reported Reported old new text was still grew = cc

pub grown : (old new : JournalState) (text : List ℕ) → Grows old new text → new.phase ≡ Open → IsOpenBy old new text
grown old new text grows still = grown_in old.phase new.phase old new text refl still grows.grew

unreported : (has : Bool) (bytes : Option (List ℕ)) (cause : Option Cause) (p : Phase) → (reported (record { has_writer = has; bytes = bytes; cause = cause; phase = p })).phase ≡ Open → p ≡ Open
unreported has bytes cause Open is = refl
unreported has bytes cause Closed is = cc
unreported has bytes cause Reported is = cc

between : {T : Type 0} (old new : Snapshot T) → IsBetween old new → new.stands.journal.phase ≡ Open → IsOpenBy old.stands.journal new.stands.journal []
between old new left still = elim left.journal [
  | inl same ↦ record {
    was = sym (ap (λ (k : JournalState). k.phase) same) ∙ still;
    grew = subst (λ b. Appends old.stands.journal.bytes b []) (sym (ap (λ (k : JournalState). k.bytes) same)) (Appends-nil old.stands.journal.bytes);
  }
  | inr same ↦ record {
    was = unreported old.stands.journal.has_writer old.stands.journal.bytes old.stands.journal.cause old.stands.journal.phase (sym (ap (λ (k : JournalState). k.phase) same) ∙ still);
    grew = subst (λ b. Appends old.stands.journal.bytes b []) (sym (ap (λ (k : JournalState). k.bytes) same)) (Appends-nil old.stands.journal.bytes);
  }
]

-- ---- all turns

-- what the turns were for the machine s
pub record Went {T : Type 0} (holds : T → List Setting → Type 0) (s : State) (first : Snapshot T) (turns : List (Turn T)) (last : Snapshot T) : Type 0 where
  pub parts : List Part
  pub are_parts : AreParts turns parts
  pub all : outcomes_in parts ≡ outcomes (map machine_event (parts_events parts)) s
  pub led : IsLed (run (map machine_event (parts_events parts)) s)
  pub kept : KeepsState last.stands.table (run (map machine_event (parts_events parts)) s)
  pub held : holds first.store s.settings → holds last.store (run (map machine_event (parts_events parts)) s).settings
  pub noted : last.stands.journal.phase ≡ Open → IsOpenBy first.stands.journal last.stands.journal (flat_map event_line (parts_events parts))

module _ {T : Type 0} (holds : T → List Setting → Type 0) where
  none_went : (s : State) (first last : Snapshot T) → IsLed s → KeepsState first.stands.table s → IsBetween first last → Went holds s first [] last
  none_went s first last led keeps left = record {
    parts = [];
    are_parts = tt;
    all = refl;
    led = led;
    kept = subst (λ (t : Table). KeepsState t s) (sym left.table) keeps;
    held = λ held. subst (λ (store : T). holds store s.settings) (sym left.store) held;
    noted = between first last left;
  }

  one_went : (s : State) (first : Snapshot T) (turn : Turn T) (turns : List (Turn T)) (last : Snapshot T) → IsBetween first turn.before → (w : Was holds s turn) →
      Went holds (run (map machine_event w.events) s) turn.after turns last → Went holds s first (turn ∷ turns) last
  one_went s first turn turns last left w more =
      let same : map machine_event (w.events ++ parts_events more.parts) ≡ map machine_event w.events ++ map machine_event (parts_events more.parts) = map-append machine_event w.events (parts_events more.parts) in
      let ended : run (map machine_event (parts_events more.parts)) (run (map machine_event w.events) s) ≡ run (map machine_event (w.events ++ parts_events more.parts)) s =
      sym (run_append (map machine_event w.events) (map machine_event (parts_events more.parts)) s) ∙ ap (λ es. run es s) (sym same) in
      record {
        parts = (w.events, w.outs) ∷ more.parts;
        are_parts = (w.is_part, more.are_parts);
        all = (λ i. w.all i ++ more.all i) ∙ sym (outcomes_append (map machine_event w.events) (map machine_event (parts_events more.parts)) s) ∙ ap (λ es. outcomes es s) (sym same);
        led = subst IsLed ended more.led;
        kept = subst (KeepsState last.stands.table) ended more.kept;
        held = λ held. subst (λ (t : State). holds last.store t.settings) ended (more.held (w.held (subst (λ (store : T). holds store s.settings) (sym left.store) held)));
        noted = λ still.
            let later = more.noted still in
            let here = grown turn.before.stands.journal turn.after.stands.journal (flat_map event_line w.events) w.noted later.was in
            let before = between first turn.before left here.was in
            record {
              was = before.was;
              grew = subst (Appends first.stands.journal.bytes last.stands.journal.bytes) (sym (flat_map-append event_line w.events (parts_events more.parts)))
                  (Appends-trans first.stands.journal.bytes turn.before.stands.journal.bytes last.stands.journal.bytes [] (flat_map event_line w.events ++ flat_map event_line (parts_events more.parts)) before.grew
                  (Appends-trans turn.before.stands.journal.bytes turn.after.stands.journal.bytes last.stands.journal.bytes (flat_map event_line w.events) (flat_map event_line (parts_events more.parts)) here.grew later.grew));
            };
      }

  pub went : (s : State) (first : Snapshot T) (turns : List (Turn T)) (last : Snapshot T) → IsLed s → KeepsState first.stands.table s → AreTurns holds first turns last → Went holds s first turns last
  went s first [] last led keeps left = none_went s first last led keeps left
  went s first (turn ∷ turns) last led keeps received =
      let w = was holds s turn led (subst (λ (t : Table). KeepsState t s) (sym received.0.table) keeps) received.1 in
      one_went s first turn turns last received.0 w (went (run (map machine_event w.events) s) turn.after turns last w.led w.kept received.2)
