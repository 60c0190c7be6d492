-- Objects of plain members, as they are written: compact, with their keys in byte order.
use Rattle.std.specs.Prelude.{ℕ, ℤ, List, [], ◌∷◌, ◌++◌, map, Bool}
use Rattle.std.specs.Borrow.{Bor}
use Rattle.serde_json.specs.Data.{Data, boolean, number, unsigned, string, object, Members, no_members, put}
use Rattle.serde_json.specs.Find.{of_integer}
use Rattle.serde_json.specs.Written.{compact_text}
use Rattle.ctl_protocol.specs.declared.object.Cell.{Cell}
use Rattle.ctl_protocol.specs.declared.object.Cell.TheVariants as cells

-- a member's value
pub data Plain : Type 0 where
  text : List ℕ → Plain
  flag : Bool → Plain
  count : ℕ → Plain
  whole : ℤ → Plain

-- the value as data of JSON
abbrev pub plain_data : Plain → Data
plain_data (text s) = string s
plain_data (flag b) = boolean b
plain_data (count n) = number (unsigned n)
plain_data (whole z) = number (of_integer z)

-- the members, with these put at their places
abbrev pub with_members : Members → List (List ℕ × Plain) → Members
with_members ms [] = ms
with_members ms (m ∷ more) = with_members (put m.0 (plain_data m.1) ms) more

-- the object with these members
abbrev pub plain_object : List (List ℕ × Plain) → Data
plain_object members = object (with_members no_members members)

-- the value's compact text and a newline
abbrev pub line_of : Data → List ℕ
line_of d = compact_text d ++ 10 ∷ []

-- members without where their texts lie in memory
abbrev pub plain_of : Cell → Plain
plain_of (cells.Text s) = text s.now
plain_of (cells.Flag b) = flag b
plain_of (cells.Count n) = count n
plain_of (cells.Whole z) = whole z

-- each key with its value, without where they lie in memory
abbrev pub plains_of : List (Bor (List ℕ) × Cell) → List (List ℕ × Plain)
plains_of members = map (λ m. (m.0.now, plain_of m.1)) members

-- each key with its flag, without where the keys lie in memory
abbrev pub flags_of : List (Bor (List ℕ) × Bool) → List (List ℕ × Plain)
flags_of flags = map (λ f. (f.0.now, flag f.1)) flags
