-- The store of settings that was closed after the turns and is opened again.
use Rattle.std.proofs.Common.{◌≡◌, ℕ, List, Option, Some, subst, ◌∙◌}
use Rattle.std.specs.Prelude.{reverse}
use Rattle.sqlite.specs.Held.{Held, state}
use Rattle.sqlite.specs.Store.{Ghosts}
use Rattle.sqlite.specs.Schema.{Schema}
use Rattle.sqlite.specs.State.{State, HasCleanDisk}
use Rattle.history_model.specs.declared.event.Setting.{Setting}
use Rattle.ctl_protocol.specs.declared.header.Header.{Header}
use Rattle.override_store.specs.OverrideStores.{IsOpenedOn, setting_rows}
use Rattle.override_store.specs.Settings.{HoldsEach, setting_in}
use Rattle.override_store.specs.declared.known.Known.{Known}
use Rattle.override_store.specs.KnownSettings.{AtHand, HoldsKnown, HoldsLast, settings_of}
use Rattle.override_store.proofs.AgainLemmas.{held_on, same_settings}
use Rattle.outside.specs.Stores.{StoreCall}
use Rattle.launcher.specs.Journals.{JournalState}
use Rattle.launcher.specs.Hosts.{IsNew}
use Rattle.launcher_laws.specs.TurnRuns.{Snapshot, Turn, AreTurns}
use Rattle.launcher_laws.specs.Lasting.{Lasts, settings_at_last}
use Rattle.launcher_laws.proofs.LastingLemmas.{lasted}
use Rattle.child_edge.specs.Calls.{ToldCall}

-- one that goes on after its disk failed, if it is at hand
module _ {T S : Type 0} (g : Ghosts S) (pattern_of : T → Schema) (store_of : T → Option (Held S)) (known_of : T → List Known) where
  abbrev HoldsNowIn : T → List Setting → Type 0
  HoldsNowIn t = HoldsLast g (pattern_of t) (store_of t) (known_of t)

  pub reopened_last : (header : Header) (calls : Option (List ToldCall)) (stores : Option (List StoreCall)) (journal : JournalState) (store : T) (first last : Snapshot T) (turns : List (Turn T)) (at_end : Held S) (again : State) →
      (new : IsNew header calls stores journal first.stands (HoldsNowIn store) (HoldsNowIn first.store)) → AreTurns HoldsNowIn first turns last →
      (list : List Setting) → HoldsNowIn store list → store_of last.store ≡ Some at_end → IsOpenedOn (state g at_end) again → HasCleanDisk again → (listed : List Setting) → HoldsEach (setting_rows again.now.trees) (reverse listed) →
      (lasts : Lasts HoldsNowIn new.machine turns last) × ((label : List ℕ) → setting_in (reverse listed) label ≡ setting_in (settings_at_last lasts) label)
  reopened_last header calls stores journal store first last turns at_end again new received list held is opened clean listed told =
      let lasts = lasted HoldsNowIn header calls stores journal store first last turns new received list held in
      let known = known_of last.store in
      let there : HoldsKnown (state g at_end) known = subst (λ (o : Option (Held S)). AtHand g o known) is lasts.held.2 in (
        lasts,
        λ label. same_settings (setting_rows again.now.trees) (reverse listed) (settings_of known) told (held_on (state g at_end) again opened (settings_of known) there.0 clean).1 label ∙ lasts.held.1 label,
      )
