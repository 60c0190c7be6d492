-- Settings as a store lists them, and the tie of its rows to a list of settings.
use Rattle.std.specs.Prelude.{◌≡◌, ◌↔◌, ℕ, Bool, false, List, [], ◌∷◌, map, Any, Option, Some, option_map, pos, string_bytes, String, IsUtf8, IsTrue}
use Rattle.std.specs.List.{AllZip, filter}
use Rattle.std.specs.declared.alloc.Global.{Global}
use Rattle.std.specs.List.Sorted.{IsPermutation, IsSorted, IsSortedByKey}
use Rattle.std.specs.Ordering.{nat_cmp}
use Rattle.std.specs.Cmp.Lexicographic.{slice_cmp}
use Rattle.sqlite.specs.declared.types.Value.{Value}
use Rattle.sqlite.specs.declared.types.Value.TheVariants.{Int, Text}
use Rattle.sqlite.specs.Order.{Row, column, value_cmp}
use Rattle.history_model.specs.declared.event.Setting.{Setting}
use Rattle.history_model.specs.Search.{first}
use Rattle.history_model.specs.Labels.{Label, is_label, is_same}
use Rattle.history_model.specs.Machine.{sets}
use Rattle.override_store.specs.SettingRows.{IsFlag, IsStamped, HasSetting}

-- what the query shows of a row
abbrev pub shown : Row → Row
shown row = column row 1 ∷ column row 2 ∷ column row 3 ∷ []

-- what the query answers: each row once, by rising labels
pub record IsSortedList (rows answer : List Row) : Type 0 where
  pub same : IsPermutation (map shown rows) answer
  pub sorted : IsSorted (λ x y. value_cmp (column x 0) (column y 0)) answer

-- a label, and the second of its change
abbrev pub Change : Type 0
Change = List ℕ × ℕ

-- the row is of this label, which is one
abbrev pub IsOf : Row → List ℕ → Type 0
IsOf row label = (column row 0 ≡ Text label) × IsTrue (is_label label)

-- the row reads as this setting
abbrev pub IsEntry : Row → Setting → Type 0
IsEntry row setting = IsOf row setting.label × IsFlag (column row 1) setting.disabled

-- the row reads as this label and second
abbrev pub IsChange : Row → Change → Type 0
IsChange row change = IsOf row change.0 × (column row 2 ≡ Int (pos change.1))

-- each row once, by rising bytes of the labels
pub record Lists {A : Type 0} (label_of : A → List ℕ) (Reads : Row → A → Type 0)
    (rows : List Row) (all : List A) : Type 0 where
  pub answer : List Row
  pub same : IsPermutation (map shown rows) answer
  pub each : AllZip Reads answer all
  pub rising : IsSortedByKey label_of (slice_cmp nat_cmp) all

-- each row once, as its setting
abbrev pub ListsSettings : List Row → List Setting → Type 0
ListsSettings = Lists (λ (s : Setting). s.label) IsEntry

-- each row once, as its change
abbrev pub ListsChanges : List Row → List Change → Type 0
ListsChanges = Lists (λ (c : Change). c.0) IsChange

-- what `changes` gives, as contracts see it
abbrev pub change_of : String Global × ℕ → Change
change_of e = (string_bytes e.0, e.1)

-- the labels of a list that `all` gives
abbrev pub labels_set : List Setting → List Label
labels_set settings = map (λ (s : Setting). s.label) settings

-- the labels of a list that `changes` gives
abbrev pub labels_changed : List Change → List Label
labels_changed changes = map (λ (c : Change). c.0) changes

-- the value is not a label that is text
abbrev pub IsForeign : Value → Type 0
IsForeign v = (t : List ℕ) → v ≡ Text t → IsUtf8 t → is_label t ≡ false

-- a stored row has such a name
abbrev pub HasForeign : List Row → Type 0
HasForeign rows = Any (λ row. IsForeign (column row 1)) rows

-- a row of the query's answer has such a name
abbrev pub HasForeignAnswer : List Row → Type 0
HasForeignAnswer answer = Any (λ row. IsForeign (column row 0)) answer

-- the label's last setting in a list that has the newest first
abbrev pub setting_in : List Setting → Label → Option Bool
setting_in settings label =
    option_map (λ (s : Setting). s.disabled) (first (filter (sets label) settings))

-- the rows hold the last setting of each label in the list, and no other
abbrev pub HoldsEach : List Row → List Setting → Type 0
HoldsEach rows settings =
    (label : Label) (disabled : Bool) →
    (setting_in settings label ≡ Some disabled) ↔ HasSetting rows label disabled

-- the label's last second in a list that has the newest first
abbrev pub second_in : List Change → Label → Option ℕ
second_in changes label =
    option_map (λ (c : Change). c.1) (first (filter (λ (c : Change). is_same label c.0) changes))

-- the rows have the last second of each label in the list
abbrev pub StampsEach : List Row → List Change → Type 0
StampsEach rows changes =
    (label : Label) (second : ℕ) →
    second_in changes label ≡ Some second → IsStamped rows label second

-- what the rows held, and this setting, they hold now
abbrev pub HoldsOneMore : List Row → List Row → Setting → Type 0
HoldsOneMore old new setting =
    (settings : List Setting) → HoldsEach old settings → HoldsEach new (setting ∷ settings)

-- both lists have the same last setting of each label
abbrev pub ListAlike : List Setting → List Setting → Type 0
ListAlike one other = (label : Label) → setting_in one label ≡ setting_in other label
