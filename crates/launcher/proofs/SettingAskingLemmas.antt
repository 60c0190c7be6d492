-- The turn of a setting that a client asks for.
use Rattle.std.proofs.Common.{◌≡◌, Bool, true, false, List, [], Option, Some, refl, sym, subst, ◌∙◌}
use Rattle.history_model.specs.declared.Refusal.{Refusal}
use Rattle.history_model.specs.declared.event.Setting.{Setting}
use Rattle.history_model.specs.Labels.{Label}
use Rattle.history_model.specs.Machine.{State}
use Rattle.history_model.specs.Step.{step}
use Rattle.loaded_jobs.specs.Tables.{Name}
use Rattle.loaded_jobs.specs.StandsFor.{KeepsState}
use Rattle.loaded_jobs.specs.SettingChanges.{set_of}
use Rattle.outside.specs.Asking.{told_of}
use Rattle.launcher.specs.Journals.{JournalState, Grows}
use Rattle.launcher.proofs.JournalsLemmas.{grows_nothing}
use Rattle.launcher.specs.HostTurns.{IsLed}
use Rattle.launcher.specs.JournaledLines.{setting_asked}
use Rattle.launcher.specs.LoadTurns.{SetTurnOf, IsUntouched, Standing, is_memory, settings_after}
use Rattle.launcher.specs.Hosts.{HostTurnOf, IsOwn, Receives}
use Rattle.launcher.specs.Inputs.{asked}
use Rattle.launcher.proofs.HostsLemmas.{receives, wordless, settled, unsettled}

-- a setting asks for no job
own_none : (label : Label) (disabled unload : Bool) (names : List Name) → IsOwn (asked (setting_asked label disabled unload)) names 0
own_none label disabled true names = tt
own_none label disabled false names = tt

-- a turn of a setting, under each of its names
module _ (s : State) (label : Label) (kept : Bool) (refusal : Option Refusal) (old new : Standing) (before after : List Setting → Type 0) where
  set_turn : (disabled unload : Bool) → SetTurnOf s label disabled unload kept refusal old new → (before s.settings → after (step s (set_of label disabled unload kept)).settings) →
      HostTurnOf s (asked (setting_asked label disabled unload)) refusal [] old new before after
  set_turn true true turn stored = record {
    outside = record { bind = true; store = kept };
    job = 0;
    mid = old.calls;
    asks = (refl, refl, turn.asks);
    turn = turn.turn;
    own = λ none. own_none label true true turn.turn.names;
    numbers = turn.numbers;
    stays = turn.stays;
    text = λ none. wordless s (set_of label true true kept) (λ t. refl) (turn.turn.replies ∙ none);
    stored = stored;
  }
  set_turn false true turn stored = record {
    outside = record { bind = true; store = kept };
    job = 0;
    mid = old.calls;
    asks = (refl, refl, turn.asks);
    turn = turn.turn;
    own = λ none. own_none label false true turn.turn.names;
    numbers = turn.numbers;
    stays = turn.stays;
    text = λ none. wordless s (set_of label false true kept) (λ t. refl) (turn.turn.replies ∙ none);
    stored = stored;
  }
  set_turn true false turn stored = record {
    outside = record { bind = true; store = kept };
    job = 0;
    mid = old.calls;
    asks = (refl, refl, turn.asks);
    turn = turn.turn;
    own = λ none. own_none label true false turn.turn.names;
    numbers = turn.numbers;
    stays = turn.stays;
    text = λ none. wordless s (set_of label true false kept) (λ t. refl) (turn.turn.replies ∙ none);
    stored = stored;
  }
  set_turn false false turn stored = record {
    outside = record { bind = true; store = kept };
    job = 0;
    mid = old.calls;
    asks = (refl, refl, turn.asks);
    turn = turn.turn;
    own = λ none. own_none label false false turn.turn.names;
    numbers = turn.numbers;
    stays = turn.stays;
    text = λ none. wordless s (set_of label false false kept) (λ t. refl) (turn.turn.replies ∙ none);
    stored = stored;
  }

pub changed : (label : Label) (disabled unload kept : Bool) (refusal : Option Refusal) (old new : Standing) (before after : List Setting → Type 0) →
    (is_memory refusal ≡ true → IsUntouched old.table new.table (told_of old.calls old.stores) (told_of new.calls new.stores)) → (is_memory refusal ≡ true → new.journal ≡ old.journal) →
    (is_memory refusal ≡ false → (s : State) → IsLed s → KeepsState old.table s → SetTurnOf s label disabled unload kept refusal old new) →
    ((s : State) → KeepsState old.table s → before s.settings → after (settings_after refusal s (set_of label disabled unload kept))) →
    Receives (Some (asked (setting_asked label disabled unload))) refusal [] old new before after
changed label disabled unload kept refusal old new before after untouched silent turned stored =
    receives (asked (setting_asked label disabled unload)) refusal [] old new before after
    (λ memory. (
      record {
        untouched = untouched memory;
        silent = subst (λ (x : JournalState). Grows old.journal x []) (sym (silent memory)) (grows_nothing old.journal);
        stored = λ s keeps holds. unsettled after refusal s (set_of label disabled unload kept) memory (stored s keeps holds);
      },
      silent memory,
    ))
    (λ other s led keeps. set_turn s label kept refusal old new before after disabled unload (turned other s led keeps)
    (λ holds. settled after refusal s (set_of label disabled unload kept) other (stored s keeps holds)))
