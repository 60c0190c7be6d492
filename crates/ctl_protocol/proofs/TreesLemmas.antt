-- A line's tree beside the data that it stands for.
use Rattle.std.proofs.Common.{◌≡◌, ℕ, List, [], Bool, true, false, ◌&&◌, Option, Some, None, Ordering, Less, Equal, Greater, is_eq, is_some, option_map, option_and_then, cond, unwrap_or, refl, sym, ap, ◌∙◌, true≢false, bytes_eq}
use Rattle.std.proofs.lemmas.Str.{IsUtf8-from_is_utf8, is_utf8-from_IsUtf8}
use Rattle.std.proofs.lemmas.Option.{same_Some, none-some}
use Rattle.std.proofs.lemmas.Slice.Eq.{bytes_eq-Decides}
use Rattle.std.specs.Prelude.{if◌then◌else◌}
use Rattle.std.specs.Str.{IsUtf8, is_utf8}
use Rattle.json.specs.Find as json
use Rattle.json.specs.Json.{Json, Items, Members, value, if_last}
use Rattle.json.specs.Json as trees
use Rattle.json.specs.Lex.{tokens}
use Rattle.json.specs.Token.{Token}
use Rattle.serde_json.proofs.Views.{get_member-put, get_member-put_other}
use Rattle.serde_json.specs.Data.{Data, null, number, array, object, item, put, no_members}
use Rattle.serde_json.specs.Data as values
use Rattle.serde_json.specs.Find.{get, get_member, as_str, as_bool, as_number, as_u64}
use Rattle.serde_json.specs.Read.{of_json, of_items, of_members, max_depth, number_of}
use Rattle.std.proofs.lemmas.Map.Text.{is_eq-slice_cmp}
use Rattle.std.specs.Cmp.Lexicographic.{slice_cmp}
use Rattle.std.specs.Ordering.{match_ordering, nat_cmp}
use Rattle.json_kinds.specs.Json.{json_in}
use Rattle.ctl_protocol.specs.declared.members.Form.{Form}
use Rattle.ctl_protocol.specs.Members.{is_key, members_are, has_only, or_absent, flag_or}
use Rattle.ctl_protocol.specs.Trees.{tree_in, data_of, is_readable, items_are_readable, members_are_readable, keys_pass, keys_are, flag_from, integer_of}
use Rattle.history_model.proofs.BooleanLemmas.{and-true}

no_tree_at : (bytes : List ℕ) (b : Bool) → is_utf8 bytes ≡ b → (IsUtf8 bytes → ⊥) → tree_in bytes ≡ None
no_tree_at bytes true is not = absurd (not (IsUtf8-from_is_utf8 bytes is))
no_tree_at bytes false is not = rw is refl

pub no_tree : (bytes : List ℕ) → (IsUtf8 bytes → ⊥) → tree_in bytes ≡ None
no_tree bytes not = no_tree_at bytes _ refl not

pub tree_read : (bytes : List ℕ) (j : Json) (rest : List Token) → IsUtf8 bytes → value max_depth (tokens bytes) ≡ Some (j, rest) → rest ≡ [] → tree_in bytes ≡ Some j
tree_read bytes j rest text is end = rw (is_utf8-from_IsUtf8 bytes text, is, end) refl

-- ---- which trees stand for data

maps : {A B : Type 0} → (f : A → B) (o : Option A) → is_some (option_map f o) ≡ is_some o
maps f None = refl
maps f (Some x) = refl

both : (o : Option Data) (rest : Option values.Items) → is_some (option_and_then (λ d. option_map (item d) rest) o) ≡ (is_some o && is_some rest)
both None rest = refl
both (Some d) rest = maps (item d) rest

each : (o : Option Data) (f : Data → Option values.Members) (b : Bool) → ((d : Data) → is_some (f d) ≡ b) → is_some (option_and_then f o) ≡ (is_some o && b)
each None f b all = refl
each (Some d) f b all = all d

mutual
  pub readable : (j : Json) → is_some (of_json j) ≡ is_readable j
  readable trees.null = refl
  readable (trees.boolean b) = refl
  readable (trees.number s) = maps number (number_of s)
  readable (trees.string s) = refl
  readable (trees.array js) = maps array (of_items js) ∙ items_readable js
  readable (trees.object ms) = maps object (of_members ms no_members) ∙ members_readable ms no_members

  items_readable : (js : Items) → is_some (of_items js) ≡ items_are_readable js
  items_readable trees.no_items = refl
  items_readable (trees.item j js) = both (of_json j) (of_items js) ∙ ap (λ b. b && is_some (of_items js)) (readable j) ∙ ap (λ b. is_readable j && b) (items_readable js)

  members_readable : (ms : Members) (found : values.Members) → is_some (of_members ms found) ≡ members_are_readable ms
  members_readable trees.no_members found = refl
  members_readable (trees.member k j ms) found =
      each (of_json j) (λ d. of_members ms (put k d found)) (members_are_readable ms) (λ d. members_readable ms (put k d found)) ∙ ap (λ b. b && members_are_readable ms) (readable j)

of_tree_at : (b : Bool) (o : Option Json) → (if b then option_and_then of_json o else None) ≡ option_and_then of_json (if b then o else None)
of_tree_at true o = refl
of_tree_at false o = refl

-- what serde_json reads is what the tree stands for
pub of_tree : (bytes : List ℕ) → json_in bytes ≡ option_and_then of_json (tree_in bytes)
of_tree bytes = of_tree_at (is_utf8 bytes) (option_and_then (λ p. if_last p.0 p.1) (value max_depth (tokens bytes)))

some_data : (o : Option Data) → is_some o ≡ true → o ≡ Some (unwrap_or o null)
some_data None is = absurd (true≢false (sym is))
some_data (Some d) is = refl

pub has_data : (j : Json) → is_readable j ≡ true → of_json j ≡ Some (data_of j)
has_data j is = some_data (of_json j) (readable j ∙ is)

no_data : (o : Option Data) → is_some o ≡ false → o ≡ None
no_data None is = refl
no_data (Some d) is = absurd (true≢false is)

pub line_read : (bytes : List ℕ) (j : Json) → tree_in bytes ≡ Some j → is_readable j ≡ true → json_in bytes ≡ Some (data_of j)
line_read bytes j is good = of_tree bytes ∙ ap (option_and_then of_json) is ∙ has_data j good

pub line_refused : (bytes : List ℕ) (j : Json) → tree_in bytes ≡ Some j → is_readable j ≡ false → json_in bytes ≡ None
line_refused bytes j is bad = of_tree bytes ∙ ap (option_and_then of_json) is ∙ no_data (of_json j) (readable j ∙ bad)

pub line_missing : (bytes : List ℕ) → tree_in bytes ≡ None → json_in bytes ≡ None
line_missing bytes is = of_tree bytes ∙ ap (option_and_then of_json) is

-- ---- single values

as_str_number : (o : Option values.Num) → as_str (unwrap_or (option_map number o) null) ≡ None
as_str_number None = refl
as_str_number (Some n) = refl

as_str_array : (o : Option values.Items) → as_str (unwrap_or (option_map array o) null) ≡ None
as_str_array None = refl
as_str_array (Some ds) = refl

as_str_object : (o : Option values.Members) → as_str (unwrap_or (option_map object o) null) ≡ None
as_str_object None = refl
as_str_object (Some ds) = refl

pub data_str : (j : Json) → as_str (data_of j) ≡ json.as_str j
data_str trees.null = refl
data_str (trees.boolean b) = refl
data_str (trees.number s) = as_str_number (number_of s)
data_str (trees.string s) = refl
data_str (trees.array js) = as_str_array (of_items js)
data_str (trees.object ms) = as_str_object (of_members ms no_members)

as_bool_number : (o : Option values.Num) → as_bool (unwrap_or (option_map number o) null) ≡ None
as_bool_number None = refl
as_bool_number (Some n) = refl

as_bool_array : (o : Option values.Items) → as_bool (unwrap_or (option_map array o) null) ≡ None
as_bool_array None = refl
as_bool_array (Some ds) = refl

as_bool_object : (o : Option values.Members) → as_bool (unwrap_or (option_map object o) null) ≡ None
as_bool_object None = refl
as_bool_object (Some ds) = refl

pub data_bool : (j : Json) → as_bool (data_of j) ≡ json.as_bool j
data_bool trees.null = refl
data_bool (trees.boolean b) = refl
data_bool (trees.number s) = as_bool_number (number_of s)
data_bool (trees.string s) = refl
data_bool (trees.array js) = as_bool_array (of_items js)
data_bool (trees.object ms) = as_bool_object (of_members ms no_members)

as_number_number : (o : Option values.Num) → as_number (unwrap_or (option_map number o) null) ≡ o
as_number_number None = refl
as_number_number (Some n) = refl

as_number_array : (o : Option values.Items) → as_number (unwrap_or (option_map array o) null) ≡ None
as_number_array None = refl
as_number_array (Some ds) = refl

as_number_object : (o : Option values.Members) → as_number (unwrap_or (option_map object o) null) ≡ None
as_number_object None = refl
as_number_object (Some ds) = refl

pub data_number : (j : Json) → as_number (data_of j) ≡ option_and_then number_of (json.as_number j)
data_number trees.null = refl
data_number (trees.boolean b) = refl
data_number (trees.number s) = as_number_number (number_of s)
data_number (trees.string s) = refl
data_number (trees.array js) = as_number_array (of_items js)
data_number (trees.object ms) = as_number_object (of_members ms no_members)

-- ---- members by name

-- the newer value, if there is one
abbrev found_or : Option Json → Option Data → Option Data
found_or None old = old
found_or (Some j) old = Some (data_of j)

differ : (xs ys : List ℕ) → bytes_eq xs ys ≡ false → ys ≡ xs → ⊥
differ xs ys other same = true≢false (sym ((bytes_eq-Decides xs ys).1 (sym same)) ∙ other)

here_at : (b : Bool) (name k : List ℕ) (j : Json) (d : Data) (found : values.Members) → bytes_eq k name ≡ b → of_json j ≡ Some d
    → get_member name (put k d found) ≡ found_or (cond b (Some j) None) (get_member name found)
here_at true name k j d found is e =
    let same : k ≡ name = (bytes_eq-Decides k name).0 is in
    rw (sym same, get_member-put k d found, e) refl
here_at false name k j d found is e = get_member-put_other name k d found (differ k name is)

after : (later : Option Json) (b : Bool) (j : Json) (old new : Option Data) → new ≡ found_or (cond b (Some j) None) old → found_or later new ≡ found_or (json.later_or later (cond b (Some j) None)) old
after None b j old new is = is
after (Some x) b j old new is = refl

get_among_at : (o : Option Data) (name k : List ℕ) (j : Json) (ms : Members) (found all : values.Members) → of_json j ≡ o
    → ((d : Data) → of_members ms (put k d found) ≡ Some all → get_member name all ≡ found_or (json.get_member name ms) (get_member name (put k d found)))
    → option_and_then (λ d. of_members ms (put k d found)) o ≡ Some all
    → get_member name all ≡ found_or (json.later_or (json.get_member name ms) (cond (bytes_eq k name) (Some j) None)) (get_member name found)
get_among_at None name k j ms found all e below is = absurd (none-some _ is)
get_among_at (Some d) name k j ms found all e below is =
    below d is ∙ after (json.get_member name ms) (bytes_eq k name) j _ _ (here_at _ name k j d found refl e)

get_among : (name : List ℕ) (ms : Members) (found all : values.Members) → of_members ms found ≡ Some all
    → get_member name all ≡ found_or (json.get_member name ms) (get_member name found)
get_among name trees.no_members found all is = ap (get_member name) (sym (same_Some _ _ is))
get_among name (trees.member k j ms) found all is = get_among_at (of_json j) name k j ms found all refl (λ d. get_among name ms (put k d found) all) is

get_null : (name : List ℕ) (o : Option values.Num) → get name (unwrap_or (option_map number o) null) ≡ None
get_null name None = refl
get_null name (Some n) = refl

get_array : (name : List ℕ) (o : Option values.Items) → get name (unwrap_or (option_map array o) null) ≡ None
get_array name None = refl
get_array name (Some ds) = refl

only_found : (o : Option Json) → found_or o None ≡ option_map data_of o
only_found None = refl
only_found (Some j) = refl

get_object : (name : List ℕ) (ms : Members) (o : Option values.Members) → of_members ms no_members ≡ o → is_some o ≡ true
    → get name (unwrap_or (option_map object o) null) ≡ option_map data_of (json.get_member name ms)
get_object name ms None e is = absurd (true≢false (sym is))
get_object name ms (Some all) e is = get_among name ms no_members all e ∙ only_found (json.get_member name ms)

-- a line has at a key what its tree has there last
pub data_get : (name : List ℕ) (j : Json) → is_readable j ≡ true → get name (data_of j) ≡ option_map data_of (json.get name j)
data_get name trees.null is = refl
data_get name (trees.boolean b) is = refl
data_get name (trees.number s) is = get_null name (number_of s)
data_get name (trees.string s) is = refl
data_get name (trees.array js) is = get_array name (of_items js)
data_get name (trees.object ms) is = get_object name ms _ refl (members_readable ms no_members ∙ is)

-- ---- keys

swapped : (a b c : Bool) → (a && (b && c)) ≡ (b && (a && c))
swapped true b c = refl
swapped false true c = refl
swapped false false c = refl

twice : (a b : Bool) → (a && b) ≡ (a && (a && b))
twice true b = refl
twice false b = refl

abbrev are : Form → List (List ℕ) → List (List ℕ) → values.Members → Bool
are form keys answers ms = members_are form keys answers ms

put_at : (o : Ordering) (form : Form) (keys answers : List (List ℕ)) (k l : List ℕ) (d e : Data) (ms : values.Members) → slice_cmp nat_cmp k l ≡ o
    → are form keys answers (put k d ms) ≡ (is_key form keys answers k && are form keys answers ms)
    → are form keys answers (match_ordering o (values.member k d (values.member l e ms)) (values.member l d ms) (values.member l e (put k d ms)))
    ≡ (is_key form keys answers k && (is_key form keys answers l && are form keys answers ms))
put_at Less form keys answers k l d e ms is later = refl
put_at Equal form keys answers k l d e ms is later =
    let same : k ≡ l = (bytes_eq-Decides k l).0 (sym (is_eq-slice_cmp k l) ∙ ap is_eq is) in
    twice (is_key form keys answers l) (are form keys answers ms) ∙ ap (λ x. is_key form keys answers x && (is_key form keys answers l && are form keys answers ms)) (sym same)
put_at Greater form keys answers k l d e ms is later =
    ap (λ b. is_key form keys answers l && b) later ∙ swapped (is_key form keys answers l) (is_key form keys answers k) (are form keys answers ms)

are-put : (form : Form) (keys answers : List (List ℕ)) (k : List ℕ) (d : Data) (ms : values.Members) → are form keys answers (put k d ms) ≡ (is_key form keys answers k && are form keys answers ms)
are-put form keys answers k d values.no_members = refl
are-put form keys answers k d (values.member l e ms) = put_at _ form keys answers k l d e ms refl (are-put form keys answers k d ms)

grouped : (a b c : Bool) → (a && (b && c)) ≡ ((b && a) && c)
grouped true true c = refl
grouped true false c = refl
grouped false true c = refl
grouped false false c = refl

are_among_at : (o : Option Data) (form : Form) (keys answers : List (List ℕ)) (k : List ℕ) (ms : Members) (found all : values.Members)
    → ((d : Data) → of_members ms (put k d found) ≡ Some all → are form keys answers all ≡ (keys_pass (is_key form keys answers) ms && are form keys answers (put k d found)))
    → option_and_then (λ d. of_members ms (put k d found)) o ≡ Some all
    → are form keys answers all ≡ ((is_key form keys answers k && keys_pass (is_key form keys answers) ms) && are form keys answers found)
are_among_at None form keys answers k ms found all below is = absurd (none-some _ is)
are_among_at (Some d) form keys answers k ms found all below is =
    below d is
    ∙ ap (λ b. keys_pass (is_key form keys answers) ms && b) (are-put form keys answers k d found)
    ∙ grouped (keys_pass (is_key form keys answers) ms) (is_key form keys answers k) (are form keys answers found)

are_among : (form : Form) (keys answers : List (List ℕ)) (ms : Members) (found all : values.Members) → of_members ms found ≡ Some all
    → are form keys answers all ≡ (keys_pass (is_key form keys answers) ms && are form keys answers found)
are_among form keys answers trees.no_members found all is = ap (are form keys answers) (sym (same_Some _ _ is))
are_among form keys answers (trees.member k j ms) found all is =
    are_among_at (of_json j) form keys answers k ms found all (λ d. are_among form keys answers ms (put k d found) all) is

only_object : (form : Form) (keys answers : List (List ℕ)) (ms : Members) (o : Option values.Members) → of_members ms no_members ≡ o → is_some o ≡ true
    → has_only form keys answers (unwrap_or (option_map object o) null) ≡ keys_pass (is_key form keys answers) ms
unfolding has_only
only_object form keys answers ms None e is = absurd (true≢false (sym is))
only_object form keys answers ms (Some all) e is = are_among form keys answers ms no_members all e ∙ and-true (keys_pass (is_key form keys answers) ms)

only_number : (form : Form) (keys answers : List (List ℕ)) (o : Option values.Num) → has_only form keys answers (unwrap_or (option_map number o) null) ≡ false
unfolding has_only
only_number form keys answers None = refl
only_number form keys answers (Some n) = refl

only_array : (form : Form) (keys answers : List (List ℕ)) (o : Option values.Items) → has_only form keys answers (unwrap_or (option_map array o) null) ≡ false
unfolding has_only
only_array form keys answers None = refl
only_array form keys answers (Some ds) = refl

-- a line has no key but these, if its tree is an object with no key but these
pub data_keys : (form : Form) (keys answers : List (List ℕ)) (j : Json) → is_readable j ≡ true → has_only form keys answers (data_of j) ≡ keys_are (is_key form keys answers) (json.as_object j)
unfolding has_only
data_keys form keys answers trees.null is = refl
data_keys form keys answers (trees.boolean b) is = refl
data_keys form keys answers (trees.number s) is = only_number form keys answers (number_of s)
data_keys form keys answers (trees.string s) is = refl
data_keys form keys answers (trees.array js) is = only_array form keys answers (of_items js)
data_keys form keys answers (trees.object ms) is = only_object form keys answers ms _ refl (members_readable ms no_members ∙ is)

-- ---- a key's value, by kind

str_at : (o : Option Json) → option_and_then as_str (option_map data_of o) ≡ option_and_then json.as_str o
str_at None = refl
str_at (Some j) = data_str j

bool_at : (o : Option Json) → option_and_then as_bool (option_map data_of o) ≡ option_and_then json.as_bool o
bool_at None = refl
bool_at (Some j) = data_bool j

number_at : (o : Option Json) → option_and_then as_u64 (option_and_then as_number (option_map data_of o)) ≡ option_and_then integer_of o
number_at None = refl
number_at (Some j) = ap (option_and_then as_u64) (data_number j)

pub text_at_key : (name : List ℕ) (j : Json) → is_readable j ≡ true → option_and_then as_str (get name (data_of j)) ≡ option_and_then json.as_str (json.get name j)
text_at_key name j is = ap (option_and_then as_str) (data_get name j is) ∙ str_at (json.get name j)

pub flag_at_key : (name : List ℕ) (j : Json) → is_readable j ≡ true → option_and_then as_bool (get name (data_of j)) ≡ option_and_then json.as_bool (json.get name j)
flag_at_key name j is = ap (option_and_then as_bool) (data_get name j is) ∙ bool_at (json.get name j)

flag_or_at : (absent : Bool) (o : Option Json) → or_absent absent (option_map data_of o) ≡ flag_from absent o
flag_or_at absent None = refl
flag_or_at absent (Some j) = data_bool j

pub flag_or_at_key : (name : List ℕ) (absent : Bool) (j : Json) → is_readable j ≡ true → flag_or name absent (data_of j) ≡ flag_from absent (json.get name j)
unfolding flag_or
flag_or_at_key name absent j is = ap (or_absent absent) (data_get name j is) ∙ flag_or_at absent (json.get name j)

pub number_at_key : (name : List ℕ) (j : Json) → is_readable j ≡ true → option_and_then as_u64 (option_and_then as_number (get name (data_of j))) ≡ option_and_then integer_of (json.get name j)
number_at_key name j is = ap (λ o. option_and_then as_u64 (option_and_then as_number o)) (data_get name j is) ∙ number_at (json.get name j)

pub has_at_key : (name : List ℕ) (j : Json) → is_readable j ≡ true → is_some (get name (data_of j)) ≡ is_some (json.get name j)
has_at_key name j is = ap is_some (data_get name j is) ∙ maps data_of (json.get name j)
