-- Values by kind, length, range and form, in the order in which they are checked. The key is the
-- one that a fault names.
use Rattle.std.specs.Prelude.{ℕ, List, [], ◌∷◌, ◌++◌, length, map, Bool, ◌&&◌, ◌==◌, nat_lt, nat_le, Result, Ok, Err, Option, Some, None, if◌then◌else◌, ⊤}
use Rattle.std.specs.List.{list_any}
use Rattle.std.specs.Str.{bytes_eq}
use Rattle.std.specs.Borrow.{Bor}
use Rattle.serde_json.specs.Data.{Num, unsigned, negative, float, Data, Items, no_items, item, Members, no_members, member}
use Rattle.serde_json.specs.Find.{get, as_str, as_bool, as_number, as_array, as_object}
use Rattle.history_model.specs.declared.Reason.TheVariants.{Missing, WrongKind, OutOfRange, TooLong, Unsupported}
use Rattle.history_model.specs.declared.KeyName.{KeyName}
use Rattle.history_model.specs.Machine.{Fault}
use Rattle.history_model.specs.RefusalTexts.{key_text}
use Rattle.json_kinds.specs.DefFaults.{bad, or_fault, ◌>>=◌}
use Rattle.json_kinds.specs.Names.{Key}
use Rattle.json_kinds.specs.declared.keys.TheConstants.{PATH_LIMIT}

-- ---- one value

-- a string
abbrev pub text_at : KeyName → Data → Result (List ℕ) Fault
text_at key d = or_fault (as_str d) (bad WrongKind key)

-- true or false
abbrev pub bool_at : KeyName → Data → Result Bool Fault
bool_at key d = or_fault (as_bool d) (bad WrongKind key)

-- an array
abbrev pub array_at : KeyName → Data → Result Items Fault
array_at key d = or_fault (as_array d) (bad WrongKind key)

-- an object of JSON
abbrev pub object_at : KeyName → Data → Result Members Fault
object_at key d = or_fault (as_object d) (bad WrongKind key)

-- from low to high; a number with a fraction or an exponent is not an integer
abbrev pub in_range : ℕ → ℕ → KeyName → Num → Result ℕ Fault
in_range low high key (unsigned n) =
    if nat_le low n && nat_le n high then Ok n else Err (bad OutOfRange key)
in_range low high key (negative z) = Err (bad OutOfRange key)
in_range low high key (float x) = Err (bad WrongKind key)

-- an integer from low to high
abbrev pub integer_at : ℕ → ℕ → KeyName → Data → Result ℕ Fault
integer_at low high key d = do
  n ← or_fault (as_number d) (bad WrongKind key)
  in_range low high key n

-- ---- texts

-- the byte 0
abbrev pub is_zero : ℕ → Bool
is_zero b = b == 0

-- at most this number of bytes, and none of them 0
unfoldable pub plain : ℕ → KeyName → List ℕ → Result (List ℕ) Fault
plain limit key text =
    if nat_lt limit (length text) then Err (bad TooLong key)
    else (if list_any is_zero text then Err (bad OutOfRange key) else Ok text)

-- and at least one
unfoldable pub filled : ℕ → KeyName → List ℕ → Result (List ℕ) Fault
filled limit key text = do
  same ← plain limit key text
  if length text == 0 then Err (bad OutOfRange key) else Ok text

-- a string of that form
unfoldable pub plain_at : ℕ → KeyName → Data → Result (List ℕ) Fault
plain_at limit key d = do
  text ← text_at key d
  plain limit key text

-- a string of that form
unfoldable pub filled_at : ℕ → KeyName → Data → Result (List ℕ) Fault
filled_at limit key d = do
  text ← text_at key d
  filled limit key text

-- a path
abbrev pub path_at : KeyName → Data → Result (List ℕ) Fault
path_at key d = filled_at PATH_LIMIT key d

-- texts without where they lie in memory
abbrev pub texts_in : List (Bor (List ℕ)) → List (List ℕ)
texts_in texts = map (λ text. text.now) texts

-- the text is one of them
abbrev pub is_among : List (List ℕ) → List ℕ → Bool
is_among texts text = list_any (λ known. bytes_eq known text) texts

-- ---- members of an array by position, of an object by byte order of keys

-- each member of an array as this reads it, up to the first fault
abbrev pub each_item : {A : Type 0} → (Data → Result A Fault) → Items → Result (List A) Fault
each_item read no_items = Ok []
each_item read (item d ds) = do
  first ← read d
  rest ← each_item read ds
  Ok (first ∷ rest)

-- each member of an object as this reads it, which may give none of it
abbrev pub each_member : {A : Type 0} → (Key → Data → Result (List A) Fault)
    → Members → Result (List A) Fault
each_member read no_members = Ok []
each_member read (member k d ms) = do
  first ← read k d
  rest ← each_member read ms
  Ok (first ++ rest)

-- an array's members, or the one value
abbrev pub members_or_one : Data → Items
members_or_one d = members_or (as_array d) d where
  members_or : Option Items → Data → Items
  members_or None d = item d no_items
  members_or (Some ds) d = ds

-- ---- a key that may be absent

-- what is read if the key is present, or else what its absence means
abbrev pub where_there : {A : Type 0} → (Data → Result A Fault) → A → Option Data → Result A Fault
where_there read absent None = Ok absent
where_there read absent (Some d) = read d

-- what is read if the key is present
abbrev pub optional : {A : Type 0} → (Data → Result A Fault) → Option Data → Result (Option A) Fault
optional read None = Ok None
optional read (Some d) = do
  x ← read d
  Ok (Some x)

-- the key is not supported, whatever its value
abbrev pub unsupported_key : KeyName → Option Data → Result ⊤ Fault
unsupported_key key None = Ok tt
unsupported_key key (Some d) = Err (bad Unsupported key)

-- ---- keys of a definition

-- the key has to be present
unfoldable pub required : KeyName → Data → Result Data Fault
required key d = or_fault (get (key_text key) d) (bad Missing key)

-- a boolean
unfoldable pub bool_key : Bool → KeyName → Data → Result Bool Fault
bool_key absent key d = where_there (bool_at key) absent (get (key_text key) d)

-- an integer from low to high
unfoldable pub integer_key : ℕ → ℕ → ℕ → KeyName → Data → Result ℕ Fault
integer_key low high absent key d =
    where_there (integer_at low high key) absent (get (key_text key) d)

-- the same, if absence means none
unfoldable pub optional_integer : ℕ → ℕ → KeyName → Data → Result (Option ℕ) Fault
optional_integer low high key d = optional (integer_at low high key) (get (key_text key) d)

-- a string of one byte to this number of bytes
unfoldable pub optional_text : ℕ → KeyName → Data → Result (Option (List ℕ)) Fault
optional_text limit key d = optional (filled_at limit key) (get (key_text key) d)

-- a path
unfoldable pub optional_path : KeyName → Data → Result (Option (List ℕ)) Fault
optional_path key d = optional (path_at key) (get (key_text key) d)

-- a key that is not supported
unfoldable pub refused_key : KeyName → Data → Result ⊤ Fault
refused_key key d = unsupported_key key (get (key_text key) d)
