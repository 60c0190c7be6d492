-- What a line holds under a key, by the JSON value that was read.
use Rattle.std.specs.Prelude.{◌≡◌, ℕ, List, Bool, Option, Some, None, option_and_then, codes}
use Rattle.std.specs.Borrow.{Bor}
use Rattle.std.specs.Option.{option_map}
use Rattle.history_model.specs.declared.Reading.{Reading}
use Rattle.serde_json.specs.Data.{Data, Items, null}
use Rattle.serde_json.specs.Find.{get, as_array, as_bool, as_number, as_str, as_u64}
use Rattle.serde_json.specs.View.{view}
use Rattle.status_file.specs.declared.fields.Fields.{Fields}

-- the object that is read, if there is one
abbrev pub object_of : Fields → Option Data
object_of fields = option_map (λ v. view v.now) fields.object

-- what is under a key of it
abbrev pub value_at : List ℕ → Option Data → Option Data
value_at key object = option_and_then (get key) object

-- the number, the flag or the text under a key
abbrev pub count_at : List ℕ → Option Data → Option ℕ
count_at key object = option_and_then as_u64 (option_and_then as_number (value_at key object))

abbrev pub flag_at : List ℕ → Option Data → Option Bool
flag_at key object = option_and_then as_bool (value_at key object)

abbrev pub text_at : List ℕ → Option Data → Option (List ℕ)
text_at key object = option_and_then as_str (value_at key object)

-- the items of the list under a key
abbrev pub items_at : List ℕ → Option Data → Option Items
items_at key object = option_and_then as_array (value_at key object)

-- the number under a key, or null if there is none
abbrev pub CountIf : List ℕ → Option Data → Option ℕ → Type 0
CountIf key object None = value_at key object ≡ Some null
CountIf key object (Some count) = count_at key object ≡ Some count

-- the flag, or null
abbrev pub FlagIf : List ℕ → Option Data → Option Bool → Type 0
FlagIf key object None = value_at key object ≡ Some null
FlagIf key object (Some flag) = flag_at key object ≡ Some flag

-- the text, or null
abbrev pub TextIf : List ℕ → Option Data → Option (Bor (List ℕ)) → Type 0
TextIf key object None = value_at key object ≡ Some null
TextIf key object (Some text) = text_at key object ≡ Some text.now

-- what is under the key, as `Is` says; or null, and then it is none
abbrev pub NullOr : {A : Type 0} → (Option Data → A → Type 0) → Option Data → Option A → Type 0
NullOr Is value None = value ≡ Some null
NullOr Is value (Some x) = Is value x

-- A key that launchers of version 0.3.0 do not write. If there is none, `x` is none.
abbrev pub Lacks : {A : Type 0} → Option Data → Option A → Type 0 → Type 0
Lacks None x there = x ≡ None
Lacks (Some value) x there = there

-- the clock reading of an object
abbrev pub IsReading : Option Data → Reading → Type 0
IsReading object at = (count_at (codes "up") object ≡ Some at.up) × (count_at (codes "wall") object ≡ Some at.wall)
