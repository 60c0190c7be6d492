-- What stored rows say of the settings of labels. A row has its rowid, the label, whether it is
-- disabled, and the second.
use Rattle.std.specs.Prelude.{◌≡◌, ◌≢◌, ◌⊎◌, ◌↔◌, ⊤, ℕ, ℤ, Bool, not, List, pos}
use Rattle.std.specs.Ordering.{int_eq}
use Rattle.sqlite.specs.declared.types.Value.{Value}
use Rattle.sqlite.specs.declared.types.Value.TheVariants.{Int, Text}
use Rattle.sqlite.specs.Order.{Row, column}
use Rattle.sqlite_rules.specs.Lists.{Has}

-- the value reads as this setting
abbrev pub IsFlag : Value → Bool → Type 0
IsFlag v disabled = (n : ℤ) × (v ≡ Int n) × (disabled ≡ not (int_eq n (pos 0)))

-- the label has a row of which this is true
pub record HasRow (rows : List Row) (label : List ℕ) (Holds : Row → Type 0) : Type 0 where
  pub row : Row
  pub there : Has rows row
  pub label_is : column row 1 ≡ Text label
  pub holds : Holds row

-- the label has a row
abbrev pub IsNamed : List Row → List ℕ → Type 0
IsNamed rows label = HasRow rows label (λ _. ⊤)

-- the label has this setting
abbrev pub HasSetting : List Row → List ℕ → Bool → Type 0
HasSetting rows label disabled = HasRow rows label (λ row. IsFlag (column row 2) disabled)

-- no label has two settings
abbrev pub HasOneSetting : List Row → Type 0
HasOneSetting rows = (label : List ℕ) (a b : Bool) → HasSetting rows label a → HasSetting rows label b → a ≡ b

-- the label's setting was changed in this second of Unix time
abbrev pub IsStamped : List Row → List ℕ → ℕ → Type 0
IsStamped rows label second = HasRow rows label (λ row. column row 3 ≡ Int (pos second))

-- the label gets this setting, and each other label keeps its own
abbrev pub Sets : List Row → List Row → List ℕ → Bool → Type 0
Sets old new label disabled =
    (l : List ℕ) (d : Bool) →
    HasSetting new l d ↔ (((l ≡ label) × (d ≡ disabled)) ⊎ ((l ≢ label) × HasSetting old l d))

-- the label gets this second, and each other label keeps its own
abbrev pub Stamps : List Row → List Row → List ℕ → ℕ → Type 0
Stamps old new label second =
    (l : List ℕ) (s : ℕ) →
    IsStamped new l s ↔ (((l ≡ label) × (s ≡ second)) ⊎ ((l ≢ label) × IsStamped old l s))

-- a label's setting is its row of the first table, with second 0, or else that of the second table
pub record Moves (firsts seconds news : List Row) : Type 0 where
  pub says : (l : List ℕ) (d : Bool) →
      HasSetting news l d ↔ (HasSetting firsts l d ⊎ (¬ IsNamed firsts l × HasSetting seconds l d))
  pub stamped : (l : List ℕ) (s : ℕ) →
      IsStamped news l s
      ↔ ((IsNamed firsts l × (s ≡ 0)) ⊎ (¬ IsNamed firsts l × IsStamped seconds l s))

-- the same settings, of the same seconds
pub record AreSame (old new : List Row) : Type 0 where
  pub says : (l : List ℕ) (d : Bool) → HasSetting new l d ↔ HasSetting old l d
  pub stamped : (l : List ℕ) (s : ℕ) → IsStamped new l s ↔ IsStamped old l s
