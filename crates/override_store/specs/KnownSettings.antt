-- The settings that a launcher's store must hold, as they are in memory, and what holds of the store at hand.
use Rattle.std.specs.Prelude.{◌≡◌, ◌≤◌, ℕ, Bool, List, ◌∷◌, map, Option, Some, MatchOption, IsTrue, length, pos, false, ⊤}
use Rattle.std.specs.List.{filter, list_any}
use Rattle.sqlite.specs.declared.types.Value.TheVariants.{Int}
use Rattle.sqlite.specs.Order.{Row, column}
use Rattle.sqlite.specs.Held.{Held, state}
use Rattle.sqlite.specs.Tree.{Trees}
use Rattle.sqlite.specs.Effect.{Database}
use Rattle.sqlite.specs.Store.{Ghosts}
use Rattle.sqlite.specs.Schema.{Schema}
use Rattle.sqlite.specs.State.{State, HasCleanDisk}
use Rattle.history_model.specs.declared.event.Setting.{Setting}
use Rattle.history_model.specs.Labels.{Label, is_same}
use Rattle.history_model.specs.Search.{first}
use Rattle.override_store.specs.declared.known.Known.{Known}
use Rattle.override_store.specs.declared.known.TheConstants.{MOST_LABELS}
use Rattle.override_store.specs.StoreTables.{both_schema}
use Rattle.override_store.specs.Settings.{Change, HoldsEach, IsEntry, ListAlike, StampsEach, second_in}
use Rattle.override_store.specs.OverrideStores.{AreOurs, HoldsSettings, HoldsStamps, IsOurs, LeavesAll, rows_now, setting_rows}

-- the row reads as this setting of this second
abbrev pub IsKnown : Row → Known → Type 0
IsKnown row known = IsEntry row known.setting × (column row 2 ≡ Int (pos known.changed))

abbrev pub change_in : Known → Change
change_in known = (known.setting.label, known.changed)

-- the settings, and their seconds
abbrev pub settings_of : List Known → List Setting
settings_of known = map (λ (k : Known). k.setting) known

abbrev pub stamps_of : List Known → List Change
stamps_of known = map change_in known

-- what is known of the label: the first of the list
abbrev pub is_known_as : Label → Known → Bool
is_known_as label known = is_same label known.setting.label

abbrev pub found_in : List Known → Label → Option Known
found_in known label = first (filter (is_known_as label) known)

-- the label has no setting, and the most labels have one
abbrev pub IsOneTooMany : List Known → Label → Type 0
IsOneTooMany known label =
    (MOST_LABELS ≤ length known) × (list_any (is_known_as label) known ≡ false)

-- a label's setting, with its second
abbrev pub known_as : Label → Bool → ℕ → Known
known_as label disabled changed =
    record { setting = record { label = label; disabled = disabled }; changed = changed }

-- both lists say the same of each label
abbrev pub TellAlike : List Known → List Known → Type 0
TellAlike one other = (label : Label) → found_in one label ≡ found_in other label

-- the list has each second of these
abbrev pub TellsStamps : List Known → List Change → Type 0
TellsStamps known stamps =
    (label : Label) (second : ℕ) → second_in stamps label ≡ Some second →
    second_in (stamps_of known) label ≡ Some second

-- a store holds what is known, with its seconds, as long as its disk has returned what was written and it is open
abbrev pub HoldsKnown : State → List Known → Type 0
HoldsKnown s known = HoldsSettings s (settings_of known) × HoldsStamps s (stamps_of known)

-- the rows are what is known, with its seconds
abbrev pub HasKnown : List Row → List Known → Type 0
HasKnown rows known = HoldsEach rows (settings_of known) × StampsEach rows (stamps_of known)

-- the trees are a database of a store that has what is known, with its seconds
abbrev pub HoldsTrees : Trees → List Known → Type 0
HoldsTrees trees known =
    (db : Database) × (trees ≡ db.trees) × AreOurs db × HasKnown (setting_rows trees) known

-- a store has committed what is known, and one setting more, with its second
pub record HasMade (s : State) (label : List ℕ) (disabled : Bool) (changed : ℕ)
    (known : List Known) : Type 0 where
  pub ours : IsOurs s
  pub settings : HoldsEach (rows_now s)
      (record { label = label; disabled = disabled } ∷ settings_of known)
  pub stamps : StampsEach (rows_now s) ((label, changed) ∷ stamps_of known)
  pub lasts : LeavesAll s

-- the store at hand, if there is one, holds what is known
abbrev pub AtHand : {S : Type 0} → Ghosts S → Option (Held S) → List Known → Type 0
AtHand g store known = MatchOption store ⊤ (λ s. HoldsKnown (state g s) known)

-- A launcher's store holds these settings: it must, and the store at hand does. A store that is opened again is
-- compared with the schema of a store.
abbrev pub HoldsLast : {S : Type 0} → Ghosts S → Schema → Option (Held S) → List Known →
    List Setting → Type 0
HoldsLast g pattern store known settings =
    (pattern ≡ both_schema) × ListAlike (settings_of known) settings × AtHand g store known

-- and so of the seconds
abbrev pub StampsLast : {S : Type 0} → Ghosts S → Schema → Option (Held S) → List Known →
    List Change → Type 0
StampsLast g pattern store known stamps =
    (pattern ≡ both_schema) × TellsStamps known stamps × AtHand g store known
