-- A line's JSON text as a tree, and the data of the tree: what `serde_json` reads of the same text. In the tree numbers are as
-- they are written, and a key may come twice.
use Rattle.std.specs.Prelude.{ℕ, List, Bool, true, false, ◌&&◌, Option, Some, None, is_some, unwrap_or, option_and_then, if◌then◌else◌}
use Rattle.std.specs.Str.{is_utf8}
use Rattle.json.specs.Json.{Json, Items, Members, if_last, value}
use Rattle.json.specs.Json as trees
use Rattle.json.specs.Find.{as_bool, as_number}
use Rattle.json.specs.Lex.{tokens}
use Rattle.serde_json.specs.Data.{Data, null}
use Rattle.serde_json.specs.Find.{as_u64}
use Rattle.serde_json.specs.Read.{of_json, max_depth, number_of}

-- the tree of a JSON text
abbrev pub tree_in : List ℕ → Option Json
tree_in bytes =
    if is_utf8 bytes then option_and_then (λ p. if_last p.0 p.1) (value max_depth (tokens bytes))
    else None

-- each number has a value: none is too large for a float
abbrev mutual
  pub is_readable : Json → Bool
  is_readable trees.null = true
  is_readable (trees.boolean b) = true
  is_readable (trees.number s) = is_some (number_of s)
  is_readable (trees.string s) = true
  is_readable (trees.array js) = items_are_readable js
  is_readable (trees.object ms) = members_are_readable ms

  pub items_are_readable : Items → Bool
  items_are_readable trees.no_items = true
  items_are_readable (trees.item j js) = is_readable j && items_are_readable js

  pub members_are_readable : Members → Bool
  members_are_readable trees.no_members = true
  members_are_readable (trees.member k j ms) = is_readable j && members_are_readable ms

-- the data of a tree, or null, if a number has no value
abbrev pub data_of : Json → Data
data_of j = unwrap_or (of_json j) null

-- each key passes the test
abbrev pub keys_pass : (List ℕ → Bool) → Members → Bool
keys_pass test trees.no_members = true
keys_pass test (trees.member k j ms) = test k && keys_pass test ms

-- an object, each of whose keys passes the test
abbrev pub keys_are : (List ℕ → Bool) → Option Members → Bool
keys_are test None = false
keys_are test (Some ms) = keys_pass test ms

-- the flag that a value is, and what stands for one that is absent
abbrev pub flag_from : Bool → Option Json → Option Bool
flag_from absent None = Some absent
flag_from absent (Some j) = as_bool j

-- the integer that a value is, from 0 on
abbrev pub integer_of : Json → Option ℕ
integer_of j = option_and_then as_u64 (option_and_then number_of (as_number j))
