-- What is asked of the store of settings.
use Rattle.std.specs.Prelude.{◌≡◌, ℕ, Bool, true, false, List, [], ◌∷◌, ◌++◌, Option, Some, if◌then◌else◌}

-- a setting that the store was asked to keep, the second in which it was said, and whether it was
-- stored
pub record StoreCall : Type 0 where
  pub label : List ℕ
  pub disabled : Bool
  pub changed : ℕ
  pub stored : Bool

-- if the calls are known afterwards, they were known before, and these are new
abbrev pub AreTold : Option (List StoreCall) → List StoreCall → Option (List StoreCall) → Type 0
AreTold old calls new =
    (after : List StoreCall) → new ≡ Some after →
    (before : List StoreCall) × (old ≡ Some before) × (after ≡ before ++ calls)

-- the store was asked to keep this, and answered so
abbrev pub set_call : List ℕ → Bool → ℕ → Bool → StoreCall
set_call label disabled changed stored =
    record { label = label; disabled = disabled; changed = changed; stored = stored }

-- each list that the store held before, it holds after, changed by this
abbrev pub HoldsAfter : {S A : Type 0} → (S → A → Type 0) → (A → A) → S → S → Type 0
HoldsAfter Holds change old new = (held : _) → Holds old held → Holds new (change held)

-- a label, and the second of Unix time in which its setting was made
abbrev pub Stamp : Type 0
Stamp = List ℕ × ℕ

-- the seconds with a new one, if it is wanted
abbrev pub stamp_if : Bool → List ℕ → ℕ → List Stamp → List Stamp
stamp_if wanted label second stamps = if wanted then (label, second) ∷ stamps else stamps

-- that a label is enabled is asked once, if it is wanted
abbrev pub store_calls : Bool → List ℕ → ℕ → Bool → List StoreCall
store_calls false label changed stored = []
store_calls true label changed stored = set_call label false changed stored ∷ []
