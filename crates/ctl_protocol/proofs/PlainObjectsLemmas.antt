-- The text of an object of plain values is read as the object.
use Rattle.std.proofs.Common.{◌≡◌, ◌<◌, ◌≤◌, ◌^◌, [], ◌∷◌, ◌++◌, Bool, true, false, decimal, None, Some, option_map, option_and_then, refl, sym, ap, ◌∙◌, arith, append-nil, if◌then◌else◌}
use Rattle.std.specs.Prelude.{⊤, IsUtf8}
use Rattle.std.proofs.lemmas.Fmt.{IsAscii-decimal}
use Rattle.std.proofs.lemmas.Str.{IsUtf8-append, IsUtf8-nil, IsUtf8-from_ascii, is_utf8-from_IsUtf8}
use Rattle.json.specs.Lex.{tokens}
use Rattle.json.specs.Json as json
use Rattle.json.specs.Print.{quoted}
use Rattle.json.specs.Tree as tree
use Rattle.json.proofs.Printed.Utf8.{are_ascii, IsUtf8-are_ascii, IsUtf8-quoted, IsUtf8-boolean}
use Rattle.json.proofs.Printed.Decimals.{IsNumber-decimal}
use Rattle.json.proofs.Printed.Tokens.{tokens-print}
use Rattle.json.proofs.Printed.Trees.{value-json_tokens, ArePrintable-json_tokens}
use Rattle.serde_json.specs.Data.{unsigned, negative, float, Data, null, boolean, number, string, array, object, Members, no_members, member, put}
use Rattle.serde_json.specs.Read.{of_json, of_members, read, max_depth}
use Rattle.serde_json.specs.Written.{outline, members_outline, comma_if, compact_text, members_text}
use Rattle.serde_json.proofs.Numbers.{number_of-decimal}
use Rattle.serde_json.proofs.Texts.{print-outline}
use Rattle.json_kinds.specs.Json.{json_in}

-- a text of UTF-8, a flag, or a number of 64 bits
abbrev pub IsPlain : Data → Type 0
IsPlain null = ⊥
IsPlain (boolean b) = ⊤
IsPlain (number (unsigned n)) = n < 2 ^ 64
IsPlain (number (negative z)) = ⊥
IsPlain (number (float x)) = ⊥
IsPlain (string s) = IsUtf8 s
IsPlain (array ds) = ⊥
IsPlain (object ms) = ⊥

-- each value is plain, and each key ASCII
abbrev pub ArePlain : Members → Type 0
ArePlain no_members = ⊤
ArePlain (member k d ms) = (are_ascii k ≡ true) × IsPlain d × ArePlain ms

-- the members put one after another at their places
abbrev pub put_onto : Members → Members → Members
put_onto no_members found = found
put_onto (member k d ms) found = put_onto ms (put k d found)

-- ---- UTF-8

utf8_value : (d : Data) → IsPlain d → IsUtf8 (compact_text d)
utf8_value null h = absurd h
utf8_value (boolean b) h = IsUtf8-boolean b
utf8_value (number (unsigned n)) h = IsUtf8-from_ascii (decimal n) (IsAscii-decimal n h)
utf8_value (number (negative z)) h = absurd h
utf8_value (number (float x)) h = absurd h
utf8_value (string s) h = IsUtf8-quoted s h
utf8_value (array ds) h = absurd h
utf8_value (object ms) h = absurd h

utf8_comma : (later : Bool) → IsUtf8 (comma_if later)
utf8_comma true = IsUtf8-are_ascii (44 ∷ []) refl
utf8_comma false = IsUtf8-nil

utf8_members : (later : Bool) (ms : Members) → ArePlain ms → IsUtf8 (members_text later ms)
utf8_members later no_members h = IsUtf8-are_ascii (125 ∷ []) refl
utf8_members later (member k d ms) h =
    IsUtf8-append (comma_if later) _ (utf8_comma later)
    (IsUtf8-append (quoted k) (58 ∷ (compact_text d ++ members_text true ms)) (IsUtf8-quoted k (IsUtf8-are_ascii k h.0))
    (IsUtf8-append (58 ∷ []) (compact_text d ++ members_text true ms) (IsUtf8-are_ascii (58 ∷ []) refl) (IsUtf8-append (compact_text d) (members_text true ms) (utf8_value d h.1) (utf8_members true ms h.2))))

utf8_object : (ms : Members) → ArePlain ms → IsUtf8 (compact_text (object ms))
utf8_object ms h = IsUtf8-append (123 ∷ []) (members_text false ms) (IsUtf8-are_ascii (123 ∷ []) refl) (utf8_members false ms h)

-- ---- the tree

has_number : (d : Data) → IsPlain d → tree.HasNumbers (outline d)
has_number null h = absurd h
has_number (boolean b) h = tt
has_number (number (unsigned n)) h = IsNumber-decimal n h
has_number (number (negative z)) h = absurd h
has_number (number (float x)) h = absurd h
has_number (string s) h = tt
has_number (array ds) h = absurd h
has_number (object ms) h = absurd h

have_numbers : (ms : Members) → ArePlain ms → tree.MembersHaveNumbers (members_outline ms)
have_numbers no_members h = tt
have_numbers (member k d ms) h = (has_number d h.1, have_numbers ms h.2)

flat : (d : Data) → IsPlain d → tree.depth (outline d) ≡ 0
flat null h = absurd h
flat (boolean b) h = refl
flat (number (unsigned n)) h = refl
flat (number (negative z)) h = absurd h
flat (number (float x)) h = absurd h
flat (string s) h = refl
flat (array ds) h = absurd h
flat (object ms) h = absurd h

all_flat : (ms : Members) → ArePlain ms → tree.members_depth (members_outline ms) ≡ 0
all_flat no_members h = refl
all_flat (member k d ms) h = rw (flat d h.1, all_flat ms h.2) refl

value_back : (d : Data) → IsPlain d → of_json (outline d) ≡ Some d
value_back null h = absurd h
value_back (boolean b) h = refl
value_back (number (unsigned n)) h = ap (option_map number) (number_of-decimal n h)
value_back (number (negative z)) h = absurd h
value_back (number (float x)) h = absurd h
value_back (string s) h = refl
value_back (array ds) h = absurd h
value_back (object ms) h = absurd h

members_back : (ms found : Members) → ArePlain ms → of_members (members_outline ms) found ≡ Some (put_onto ms found)
members_back no_members found h = refl
members_back (member k d ms) found h = ap (option_and_then (λ e. of_members (members_outline ms) (put k e found))) (value_back d h.1) ∙ members_back ms (put k d found) h.2

-- ---- the text

tokens_of : (ms : Members) → ArePlain ms → tokens (compact_text (object ms)) ≡ tree.json_tokens (outline (object ms)) ++ []
tokens_of ms h =
    let j = outline (object ms) in
    ap tokens (sym (print-outline (object ms))) ∙ tokens-print (tree.json_tokens j) (ArePrintable-json_tokens j (have_numbers ms h)) ∙ sym (append-nil (tree.json_tokens j))

shallow : (ms : Members) → ArePlain ms → tree.depth (outline (object ms)) ≤ max_depth
shallow ms h = let none = all_flat ms h in omega (arith, none)

-- the text of an object in order is read as the object
pub object_back : (ms : Members) → ArePlain ms → put_onto ms no_members ≡ ms → json_in (compact_text (object ms)) ≡ Some (object ms)
object_back ms h ordered =
    ap (λ b. if b then read (compact_text (object ms)) else None) (is_utf8-from_IsUtf8 (compact_text (object ms)) (utf8_object ms h))
    ∙ ap (λ o. option_and_then of_json (option_and_then (λ p. json.if_last p.0 p.1) o)) (ap (json.value max_depth) (tokens_of ms h) ∙ value-json_tokens (outline (object ms)) max_depth [] (shallow ms h))
    ∙ ap (option_map object) (members_back ms no_members h ∙ ap Some ordered)
