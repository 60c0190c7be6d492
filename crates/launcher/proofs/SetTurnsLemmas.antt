-- What a setting of a label leaves, from its parts.
use Rattle.std.proofs.Common.{◌≡◌, ℕ, Bool, true, false, not, ◌||◌, List, [], ◌∷◌, Option, Some, None, refl, sym, ap, subst, ◌∙◌}
use Rattle.history_model.specs.declared.Refusal.{Refusal}
use Rattle.history_model.specs.declared.Refusal.TheVariants.{BadRequest}
use Rattle.history_model.specs.declared.Ask.TheVariants.{Unload}
use Rattle.history_model.specs.Items.{Asked}
use Rattle.history_model.specs.Search.{or_else}
use Rattle.history_model.specs.Labels.{Label, is_label}
use Rattle.history_model.specs.Machine.{State, past_of}
use Rattle.history_model.specs.Acceptance.{refusal_in, refusal_at, refusal_stored, refused_if}
use Rattle.loaded_jobs.specs.SettingChanges.{set_of}
use Rattle.loaded_jobs.specs.Tables.{Table}
use Rattle.loaded_jobs.specs.StandsFor.{KeepsState}
use Rattle.outside.specs.Stores.{StoreCall, AreTold, set_call}
use Rattle.outside.proofs.AskLemmas.{told_nothing}
use Rattle.launcher.specs.Journals.{JournalState, Grows}
use Rattle.launcher.specs.HostTurns.{IsLed, NamesLabel}
use Rattle.launcher.proofs.NumbersLemmas.{same-numbers}
use Rattle.launcher.specs.JournaledLines.{set_line}
use Rattle.launcher.specs.LoadTurns.{AsksStore, SetTurnOf, standing}
use Rattle.launcher.proofs.LoadTurnsLemmas.{nothing_done}
use Rattle.child_edge.specs.Calls.{ToldCall}
use Rattle.loaded_jobs.proofs.ChangesLemmas.{set_same}

-- a setting names no label that comes
pub short_set : (label : Label) (disabled unload store : Bool) → NamesLabel (set_of label disabled unload store)
short_set label disabled true store = tt
short_set label disabled false store = tt

-- the event of the setting that was made ready is the one that was asked for
pub event_set : (ready_label label : Label) (said disabled gone unload store : Bool) → ready_label ≡ label → said ≡ (disabled || unload) → gone ≡ unload → set_of ready_label said gone store ≡ set_of label disabled unload store
event_set ready_label label said disabled gone unload store same_label same_said same_gone = (λ i. set_of (same_label i) (same_said i) (same_gone i) store) ∙ set_same label disabled unload store

-- what is not a label gets no setting
pub bad_label : (s : State) (label : Label) (disabled unload store : Bool) → is_label label ≡ false → refusal_in s (set_of label disabled unload store) ≡ Some BadRequest
bad_label s label disabled true store is = ap (λ b. refused_if (not b) BadRequest (or_else (refusal_at (past_of s label) (Asked Unload)) (refusal_stored true store))) is
bad_label s label disabled false store is = ap (λ b. refused_if (not b) BadRequest (refusal_stored true store)) is

-- a setting that was refused before the store was asked
pub never_set : (s : State) (label : Label) (disabled unload : Bool) (r : Refusal) (old new : Table) (a : Option (List ToldCall)) (t : Option (List StoreCall)) (k n : JournalState) → new.rows ≡ old.rows →
    ((store : Bool) → refusal_in s (set_of label disabled unload store) ≡ Some r) → Grows k n (set_line label disabled unload true) → KeepsState new s → IsLed s →
    SetTurnOf s label disabled unload true (Some r) (standing old a t k) (standing new a t n)
never_set s label disabled unload r old new a t k n same is noted keeps led = record {
  asks = subst (λ o. AsksStore o (set_call label (disabled || unload) s.reading.wall true) t t) (sym (is true)) (refl, told_nothing t);
  turn = nothing_done s (set_of label disabled unload true) (set_line label disabled unload true) new r a k n (is true) noted keeps led;
  numbers = λ none. let no : Some r ≡ None = none in cc;
  stays = same-numbers old new same;
}

-- the store was asked once, in the clock reading's second
pub set_calls : (s : State) (label : Label) (disabled unload said kept : Bool) (wall : ℕ) (t u : Option (List StoreCall)) → refusal_in s (set_of label disabled unload true) ≡ None → said ≡ (disabled || unload) →
    wall ≡ s.reading.wall → AreTold t (record { label = label; disabled = said; changed = wall; stored = kept } ∷ []) u →
    AsksStore (refusal_in s (set_of label disabled unload true)) (set_call label (disabled || unload) s.reading.wall kept) t u
set_calls s label disabled unload said kept wall t u none same_said same_wall told =
    subst (λ o. AsksStore o (set_call label (disabled || unload) s.reading.wall kept) t u) (sym none)
    (subst (λ b. AreTold t (record { label = label; disabled = b; changed = s.reading.wall; stored = kept } ∷ []) u) same_said
    (subst (λ n. AreTold t (record { label = label; disabled = said; changed = n; stored = kept } ∷ []) u) same_wall told))
