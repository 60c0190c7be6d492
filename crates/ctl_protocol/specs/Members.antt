-- The members of a line's object, by key and kind. None is a bad request.
use Rattle.std.specs.Prelude.{◌≡◌, ℕ, List, Bool, true, false, ◌&&◌, ◌||◌, Result, Ok, Err, Option, Some, None, option_and_then, codes}
use Rattle.std.specs.Str.{bytes_eq}
use Rattle.serde_json.specs.Data.{Data, Members, no_members, member}
use Rattle.serde_json.specs.Find.{get, as_str, as_bool, as_number, as_u64, as_object}
use Rattle.json_kinds.specs.JsonKinds.{is_among}
use Rattle.ctl_protocol.specs.declared.members.ReadFault.{ReadFault}
use Rattle.ctl_protocol.specs.declared.members.ReadFault.TheVariants.{NoMemory, BadRequest}
use Rattle.ctl_protocol.specs.declared.members.Form.{Form}
use Rattle.ctl_protocol.specs.declared.members.Form.TheVariants as forms
use Rattle.ctl_protocol.specs.Targets.{if_label, label_named}

-- go on with the value; without one the line is a bad request
infixl 10 ◌>>=◌
abbrev pub ◌>>=◌ : {A B : Type 0} → Option A → (A → Option B) → Option B
(Some x) >>= f = f x
None >>= f = None

-- the line is a bad request, or memory ran out
abbrev pub IsBadLine : {Y : Type 0} → ReadFault → Option Y → Type 0
IsBadLine NoMemory wanted = Unit {0}
IsBadLine BadRequest wanted = wanted ≡ None

-- a reader's answer is what the definition gives, but for want of memory
abbrev pub IsReadAs : {X Y : Type 0} → (X → Y) → Result X ReadFault → Option Y → Type 0
IsReadAs view (Ok x) wanted = wanted ≡ Some (view x)
IsReadAs view (Err e) wanted = IsBadLine e wanted

-- the same of an answer that is the value itself
abbrev pub Reads : {X : Type 0} → Result X ReadFault → Option X → Type 0
Reads result wanted = IsReadAs (λ x. x) result wanted

-- the text under a key
unfoldable pub text_key : List ℕ → Data → Option (List ℕ)
text_key key d = option_and_then as_str (get key d)

-- an integer from 0 to 2^64 - 1
unfoldable pub number_key : List ℕ → Data → Option ℕ
number_key key d = option_and_then as_u64 (option_and_then as_number (get key d))

-- the flag under a key
unfoldable pub flag_key : List ℕ → Data → Option Bool
flag_key key d = option_and_then as_bool (get key d)

-- the flag that a value is; if the key is absent, this one
abbrev pub or_absent : Bool → Option Data → Option Bool
or_absent absent None = Some absent
or_absent absent (Some d) = as_bool d

-- a flag that may be absent
unfoldable pub flag_or : List ℕ → Bool → Data → Option Bool
flag_or key absent d = or_absent absent (get key d)

-- the label under a key
unfoldable pub label_key : List ℕ → Data → Option (List ℕ)
label_key key d = text_key key d >>= if_label

-- the label that a target names
unfoldable pub target_key : List ℕ → Data → Option (List ℕ)
target_key key d = text_key key d >>= label_named

-- the key that names an event, and a request
abbrev pub tag_of : Form → List ℕ
tag_of forms.Event = codes "ev"
tag_of forms.Request = codes "req"

-- a request records no answers of the outside
abbrev pub has_answers : Form → Bool
has_answers forms.Event = true
has_answers forms.Request = false

-- the line's tag, a key of the shape, or one of its answers
abbrev pub is_key : Form → List (List ℕ) → List (List ℕ) → List ℕ → Bool
is_key form keys answers key =
    bytes_eq key (tag_of form) || is_among keys key || (has_answers form && is_among answers key)

-- each key of the members is the tag, a key of the shape, or one of its answers
abbrev pub members_are : Form → List (List ℕ) → List (List ℕ) → Members → Bool
members_are form keys answers no_members = true
members_are form keys answers (member k d ms) =
    is_key form keys answers k && members_are form keys answers ms

-- the same of a value, which has to be an object
abbrev object_is : Form → List (List ℕ) → List (List ℕ) → Option Members → Bool
object_is form keys answers None = false
object_is form keys answers (Some ms) = members_are form keys answers ms

-- an object with no key but these
unfoldable pub has_only : Form → List (List ℕ) → List (List ℕ) → Data → Bool
has_only form keys answers d = object_is form keys answers (as_object d)
