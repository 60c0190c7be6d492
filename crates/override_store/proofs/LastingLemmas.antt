-- What a launcher's store holds once a setting was made in it.
use Rattle.std.proofs.Common.{◌≡◌, ◌⊎◌, inl, inr, ℕ, Bool, true, false, List, ◌∷◌, Option, Some, None, refl, sym, subst, ◌∙◌, IsSomeAnd, IsTrue}
use Rattle.std.proofs.lemmas.Bool.{cases_Bool}
use Rattle.sqlite.specs.Held.{Held, state}
use Rattle.sqlite.specs.Store.{Ghosts}
use Rattle.sqlite.specs.Schema.{Schema}
use Rattle.sqlite.specs.State.{State, HasCleanDisk}
use Rattle.history_model.specs.declared.event.Setting.{Setting}
use Rattle.history_model.specs.Labels.{Label, is_same}
use Rattle.history_model.specs.Step.{set_if}
use Rattle.outside.specs.Stores.{stamp_if}
use Rattle.override_store.specs.StoreTables.{both_schema}
use Rattle.override_store.specs.declared.known.Known.{Known}
use Rattle.override_store.specs.OverrideStores.{rows_now}
use Rattle.override_store.specs.Settings.{Change, ListAlike}
use Rattle.override_store.specs.KnownSettings.{AtHand, HasMade, HoldsKnown, HoldsLast, StampsLast, TellAlike, TellsStamps, known_as, settings_of, stamps_of}
use Rattle.override_store.proofs.KnownLemmas.{holds_alike, more_alike, seconds_alike, settings_alike, stamps_alike}
use Rattle.override_store.proofs.TieLemmas.{head_second}

module _ (label : Label) (disabled : Bool) (changed : ℕ) (known new : List Known) (told : TellAlike new (known_as label disabled changed ∷ known)) where
  abbrev one : Known
  one = known_as label disabled changed

  -- the list has the setting, and else what it had before
  pub lists_more : (held : List Setting) → ListAlike (settings_of known) held → ListAlike (settings_of new) (one.setting ∷ held)
  lists_more held alike l = settings_alike new (one ∷ known) l (told l) ∙ more_alike one.setting (settings_of known) held l (alike l)

  pub stamps_told : (held : List Change) → TellsStamps known held → TellsStamps new ((label, changed) ∷ held)
  stamps_told held tells l s e = seconds_alike new (one ∷ known) l (told l) ∙ elim (cases_Bool (is_same l label)) [
    | inl same ↦ head_second (label, changed) (stamps_of known) l true same ∙ sym (head_second (label, changed) held l true same) ∙ e
    | inr other ↦ head_second (label, changed) (stamps_of known) l false other ∙ tells l s (sym (head_second (label, changed) held l false other) ∙ e)
  ]

  now_known : (s : State) → HasMade s label disabled changed known → HoldsKnown s new
  now_known s made = (
    λ clean up. (made.ours, holds_alike (rows_now s) (settings_of (one ∷ known)) (settings_of new) (λ l. settings_alike new (one ∷ known) l (told l)) made.settings),
    λ clean up. (made.ours, stamps_alike (rows_now s) (stamps_of (one ∷ known)) (stamps_of new) (λ l. seconds_alike new (one ∷ known) l (told l)) made.stamps),
  )

  pub at_hand_made : {S : Type 0} (g : Ghosts S) (store : Option (Held S)) →
      IsSomeAnd store (λ s. HasCleanDisk (state g s) → HasMade (state g s) label disabled changed known) → AtHand g store new
  at_hand_made g None made = absurd made
  at_hand_made g (Some s) made = (λ clean up. (now_known (state g s) (made clean)).0 clean up, λ clean up. (now_known (state g s) (made clean)).1 clean up)

-- so a launcher's store holds the setting if the answer was true, and else what it held
module _ {S : Type 0} (g : Ghosts S) (label : Label) (disabled : Bool) (changed : ℕ) (known new : List Known) (before after : Schema) (old store : Option (Held S)) (same : after ≡ before) where
  pub kept_last : (result : Bool) → (result ≡ false → (new ≡ known) × ((store ≡ None) ⊎ (store ≡ old))) → (IsTrue result → TellAlike new (known_as label disabled changed ∷ known)) →
      (IsTrue result → before ≡ both_schema → AtHand g old known → IsSomeAnd store (λ s. HasCleanDisk (state g s) → HasMade (state g s) label disabled changed known)) →
      (held : List Setting) → HoldsLast g before old known held → HoldsLast g after store new (set_if result label disabled held)
  kept_last true refused told made held holds = (same ∙ holds.0, lists_more label disabled changed known new (told refl) held holds.1, at_hand_made label disabled changed known new (told refl) g store (made refl holds.0 holds.2))
  kept_last false refused told made held holds =
      let it = refused refl in (
        same ∙ holds.0,
        subst (λ (k : List Known). ListAlike (settings_of k) held) (sym it.0) holds.1,
        elim it.1 [
          | inl none ↦ subst (λ (o : Option (Held S)). AtHand g o new) (sym none) tt
          | inr stays ↦ subst (λ (o : Option (Held S)). AtHand g o new) (sym stays) (subst (λ (k : List Known). AtHand g old k) (sym it.0) holds.2)
        ],
      )

  pub kept_stamps : (result : Bool) → (result ≡ false → (new ≡ known) × ((store ≡ None) ⊎ (store ≡ old))) → (IsTrue result → TellAlike new (known_as label disabled changed ∷ known)) →
      (IsTrue result → before ≡ both_schema → AtHand g old known → IsSomeAnd store (λ s. HasCleanDisk (state g s) → HasMade (state g s) label disabled changed known)) →
      (held : List Change) → StampsLast g before old known held → StampsLast g after store new (stamp_if result label changed held)
  kept_stamps true refused told made held had = (same ∙ had.0, stamps_told label disabled changed known new (told refl) held had.1, at_hand_made label disabled changed known new (told refl) g store (made refl had.0 had.2))
  kept_stamps false refused told made held had =
      let it = refused refl in (
        same ∙ had.0,
        subst (λ (k : List Known). TellsStamps k held) (sym it.0) had.1,
        elim it.1 [
          | inl none ↦ subst (λ (o : Option (Held S)). AtHand g o new) (sym none) tt
          | inr stays ↦ subst (λ (o : Option (Held S)). AtHand g o new) (sym stays) (subst (λ (k : List Known). AtHand g old k) (sym it.0) had.2)
        ],
      )
