-- The turn of a load that a client asks for.
use Rattle.std.proofs.Common.{◌≡◌, ℕ, true, false, List, [], Option, Some, None, sym, subst, ◌∙◌}
use Rattle.std.specs.Prelude.{Result, Ok, Err, IfOk}
use Rattle.history_model.specs.declared.Refusal.{Refusal}
use Rattle.history_model.specs.declared.event.Setting.{Setting}
use Rattle.history_model.specs.Machine.{State}
use Rattle.history_model.specs.Step.{outcome}
use Rattle.loaded_jobs.specs.StandsFor.{KeepsState}
use Rattle.loaded_jobs.specs.Loads.{refused_with}
use Rattle.ctl_protocol.specs.declared.request.LoadRequest.{LoadRequest}
use Rattle.ctl_protocol.specs.declared.request.Outside.{Outside}
use Rattle.ctl_protocol.specs.declared.request.Request.TheVariants as requests
use Rattle.launcher.specs.Inputs.{asked}
use Rattle.outside.specs.Asking.{told_of}
use Rattle.launcher.specs.Journals.{JournalState, Grows}
use Rattle.launcher.proofs.JournalsLemmas.{grows_nothing}
use Rattle.launcher.specs.HostTurns.{IsLed}
use Rattle.launcher.specs.LoadTurns.{LoadTurnOf, IsUntouched, Standing, is_memory, load_event, settings_after}
use Rattle.launcher.specs.Hosts.{Receives}
use Rattle.launcher.proofs.HostsLemmas.{receives, settled, unsettled}

pub loaded : (load : LoadRequest) (outside : Outside) (refusal : Option Refusal) (words : List ℕ) (old new : Standing) (before after : List Setting → Type 0) →
    (is_memory refusal ≡ true → IsUntouched old.table new.table (told_of old.calls old.stores) (told_of new.calls new.stores)) → (is_memory refusal ≡ true → new.journal ≡ old.journal) →
    (is_memory refusal ≡ false → (s : State) → IsLed s → KeepsState old.table s → LoadTurnOf s load outside refusal old new) →
    ((s : State) → KeepsState old.table s → before s.settings → after (settings_after refusal s (load_event outside load))) →
    (refusal ≡ None → (s : State) → KeepsState old.table s → (outcome s (load_event outside load)).text ≡ words) →
    Receives (Some (asked (requests.Load load))) refusal words old new before after
loaded load outside refusal words old new before after untouched silent turned stored text =
    receives (asked (requests.Load load)) refusal words old new before after
    (λ memory. (
      record {
        untouched = untouched memory;
        silent = subst (λ (x : JournalState). Grows old.journal x []) (sym (silent memory)) (grows_nothing old.journal);
        stored = λ s keeps holds. unsettled after refusal s (load_event outside load) memory (stored s keeps holds);
      },
      silent memory,
    ))
    (λ other s led keeps.
    let turn = turned other s led keeps in
    record {
      outside = outside;
      job = turn.job;
      mid = turn.mid;
      asks = turn.asks;
      turn = turn.turn;
      own = turn.own;
      numbers = turn.numbers;
      stays = turn.stays;
      text = λ none. text none s keeps;
      stored = λ holds. settled after refusal s (load_event outside load) other (stored s keeps holds);
    })

-- the text of what was made
pub load_words : (answer : Result (List ℕ) Refusal) (words : List ℕ) (P : State → Type 0) (text : State → List ℕ) → IfOk answer (λ x. (s : State) → P s → text s ≡ x) → IfOk answer (λ x. words ≡ x) → refused_with answer ≡ None →
    (s : State) → P s → text s ≡ words
load_words (Ok x) words P text says is none s holds = says s holds ∙ sym is
load_words (Err r) words P text says is none s holds = cc
