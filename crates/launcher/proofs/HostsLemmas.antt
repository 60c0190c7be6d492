-- What a launcher leaves that heard an input, by whether memory ran out.
use Rattle.std.proofs.Common.{◌≡◌, ℕ, Bool, true, false, List, [], ◌++◌, Option, Some, None, refl, sym, ap, subst}
use Rattle.std.specs.Prelude.{Result, Ok, Err, if◌then◌else◌}
use Rattle.std.proofs.lemmas.List.{append-nil}
use Rattle.history_model.specs.declared.Refusal.{Refusal}
use Rattle.history_model.specs.declared.Refusal.TheVariants.{NoMemory, BadRequest}
use Rattle.history_model.specs.declared.event.Setting.{Setting}
use Rattle.history_model.specs.Machine.{State, Event}
use Rattle.history_model.specs.Acceptance.{refusal_in}
use Rattle.history_model.specs.Step.{outcome, outcome_by, step}
use Rattle.history_model.specs.Texts.{text_after}
use Rattle.loaded_jobs.specs.Tables.{Table}
use Rattle.loaded_jobs.specs.StandsFor.{KeepsState}
use Rattle.child_edge.specs.Calls.{ToldCall}
use Rattle.child_edge.proofs.CallsLemmas.{tells_nothing}
use Rattle.outside.specs.Orders.{answers_in}
use Rattle.outside.specs.Stores.{StoreCall}
use Rattle.outside.proofs.AskLemmas.{told_nothing}
use Rattle.ctl_protocol.specs.EventWriter.{event_line}
use Rattle.launcher.specs.Journals.{JournalState, Grows}
use Rattle.launcher.proofs.JournalsLemmas.{grows_append, grows_nothing}
use Rattle.launcher.specs.HostTurns.{IsLed}
use Rattle.loaded_jobs.specs.Loads.{refused_with}
use Rattle.launcher.specs.JournaledLines.{answer_texts}
use Rattle.launcher.specs.LoadTurns.{is_memory, settings_after, Standing, standing}
use Rattle.launcher.specs.Inputs.{Incoming, event_of}
use Rattle.launcher.specs.Hosts.{HostTurnOf, IsSpared, ReceivesBy, Receives}

-- nothing changed at all
pub spared : (old : Standing) (before : List Setting → Type 0) → IsSpared old old before before
spared old before = record {
  untouched = record { same = λ s keeps. keeps; rows = refl; tells = tells_nothing old.calls; stores = told_nothing old.stores };
  silent = grows_nothing old.journal;
  stored = λ s keeps holds. holds;
}

-- ---- by whether memory ran out

pub receives : (event : Incoming) (refusal : Option Refusal) (words : List ℕ) (old new : Standing) (before after : List Setting → Type 0) →
    (is_memory refusal ≡ true → IsSpared old new before after × (new.journal ≡ old.journal)) →
    (is_memory refusal ≡ false → (s : State) → IsLed s → KeepsState old.table s → HostTurnOf s event refusal words old new before after) →
    Receives (Some event) refusal words old new before after
receives event refusal words old new before after memory other = go (is_memory refusal) refl where
  go : (b : Bool) → is_memory refusal ≡ b → ReceivesBy b (Some event) refusal words old new before after
  go true is = memory is
  go false is = other is

-- the reply that was given
pub as_replied : (event : Option Incoming) (refusal found : Option Refusal) (words told : List ℕ) (old new : Standing) (before after : List Setting → Type 0) → refusal ≡ found → words ≡ told →
    Receives event found told old new before after → Receives event refusal words old new before after
as_replied event refusal found words told old new before after same_refusal same_words received =
    subst (λ (r : Option Refusal). Receives event r words old new before after) (sym same_refusal) (subst (λ (w : List ℕ). Receives event found w old new before after) (sym same_words) received)

-- a line that is not an event
pub not_received : (event : Option Incoming) (refusal : Option Refusal) (words : List ℕ) (old : Standing) (before : List Setting → Type 0) →
    refusal ≡ Some BadRequest → event ≡ None → Receives event refusal words old old before before
not_received event refusal words old before is none =
    subst (λ (r : Option Refusal). Receives event r words old old before before) (sym is)
    (subst (λ (e : Option Incoming). Receives e (Some BadRequest) words old old before before) (sym none) (refl, spared old before))

-- a line that found no memory
pub unread : (event : Option Incoming) (refusal : Option Refusal) (words : List ℕ) (old : Standing) (before : List Setting → Type 0) → refusal ≡ Some NoMemory → Receives event refusal words old old before before
unread event refusal words old before is = subst (λ (r : Option Refusal). Receives event r words old old before before) (sym is) (spared old before, refl)

-- ---- the flush

line_flushed : (k m n : JournalState) (line : List ℕ) → Grows k m line → Grows m n [] → Grows k n line
line_flushed k m n line noted grew = subst (Grows k n) (append-nil line) (grows_append k m n line [] noted grew)

spared_flushed : (old : Standing) (table : Table) (calls : Option (List ToldCall)) (stores : Option (List StoreCall)) (m n : JournalState) (before after : List Setting → Type 0) →
    IsSpared old (standing table calls stores m) before after → Grows m n [] → IsSpared old (standing table calls stores n) before after
spared_flushed old table calls stores m n before after none grew = record {
  untouched = none.untouched;
  silent = grows_append old.journal m n [] [] none.silent grew;
  stored = none.stored;
}

pub flushed : (event : Option Incoming) (refusal : Option Refusal) (words : List ℕ) (old : Standing) (table : Table) (calls : Option (List ToldCall)) (stores : Option (List StoreCall)) (m n : JournalState) (before after : List Setting → Type 0) → is_memory refusal ≡ false →
    Receives event refusal words old (standing table calls stores m) before after → Grows m n [] → Receives event refusal words old (standing table calls stores n) before after
flushed event refusal words old table calls stores m n before after other received grew = go (is_memory refusal) event other received where
  go : (b : Bool) (e : Option Incoming) → b ≡ false → ReceivesBy b e refusal words old (standing table calls stores m) before after → ReceivesBy b e refusal words old (standing table calls stores n) before after
  go true e other none = cc
  go false None other (is, none) = (is, spared_flushed old table calls stores m n before after none grew)
  go false (Some e) other turned = λ s led keeps.
      let turn = turned s led keeps in
      record {
        outside = turn.outside;
        job = turn.job;
        mid = turn.mid;
        asks = turn.asks;
        turn = record {
          names = turn.turn.names;
          entries = turn.turn.entries;
          tells = turn.turn.tells;
          turn = turn.turn.turn;
          led = turn.turn.led;
          replies = turn.turn.replies;
          few = turn.turn.few;
          numbers = turn.turn.numbers;
          noted = line_flushed old.journal m n (event_line (event_of turn.outside e) ++ answer_texts turn.turn.names (answers_in turn.turn.entries)) turn.turn.noted grew;
          tellable = turn.turn.tellable;
          named = turn.turn.named;
        };
        own = turn.own;
        numbers = turn.numbers;
        stays = turn.stays;
        text = turn.text;
        stored = turn.stored;
      }

-- ---- the machine's texts and settings

-- an event whose acceptance has no text
pub wordless : (s : State) (e : Event) → ((t : State) → text_after e t ≡ []) → (outcome s e).refusal ≡ None → (outcome s e).text ≡ []
wordless s e quiet none = go (refusal_in s e) none where
  go : (o : Option Refusal) → (outcome_by o s e).refusal ≡ None → (outcome_by o s e).text ≡ []
  go None is = quiet _
  go (Some refusal) is = cc

-- want of memory is answered as such
pub is_want : {A : Type 0} (answer : Result A Refusal) → is_memory (refused_with answer) ≡ true → answer ≡ Err NoMemory
is_want (Ok a) is = cc
is_want (Err NoMemory) is = refl
is_want (Err _) is = cc

-- the settings after an event that found its memory
pub settled : (P : List Setting → Type 0) (refusal : Option Refusal) (s : State) (e : Event) → is_memory refusal ≡ false → P (settings_after refusal s e) → P (step s e).settings
settled P refusal s e other holds = subst P (ap (λ (b : Bool). if b then s.settings else (step s e).settings) other) holds

-- and after one that did not
pub unsettled : (P : List Setting → Type 0) (refusal : Option Refusal) (s : State) (e : Event) → is_memory refusal ≡ true → P (settings_after refusal s e) → P s.settings
unsettled P refusal s e memory holds = subst P (ap (λ (b : Bool). if b then s.settings else (step s e).settings) memory) holds
