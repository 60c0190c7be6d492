-- The text of a value is read as that value, with each object sorted, if its texts are UTF-8 and its numbers have 64 bits.
use Rattle.std.proofs.Common.{◌≡◌, ℕ, zero, suc, ◌+◌, ◌/◌, ◌%◌, ◌==◌, ◌<◌, ◌≤◌, List, [], ◌∷◌, ◌++◌, Bool, true, false, cond, nat_lt, decimal, Some, None, option_map, option_and_then, refl, sym, ap, ◌∙◌, subst, arith, append-nil, if◌then◌else◌}
use Rattle.std.specs.Prelude.{⊤, IsUtf8}
use Rattle.std.specs.Fmt.{digits, digits_onto, digit_glyph}
use Rattle.std.proofs.lemmas.Bool.{and_from}
use Rattle.std.proofs.lemmas.Bool.Decides.{nat_tests}
use Rattle.std.proofs.lemmas.Str.{IsUtf8-append, IsUtf8-nil, is_utf8-from_IsUtf8}
use Rattle.json.specs.Lex.{tokens}
use Rattle.json.specs.Json as json
use Rattle.json.specs.Print.{print, quoted}
use Rattle.json.specs.Tree as tree
use Rattle.json.proofs.Printed.Utf8.{are_ascii, IsUtf8-are_ascii, IsUtf8-quoted, IsUtf8-boolean}
use Rattle.json.proofs.Printed.Decimals.{IsNumber-decimal}
use Rattle.json.proofs.Printed.Tokens.{tokens-print}
use Rattle.json.proofs.Printed.Trees.{value-json_tokens, ArePrintable-json_tokens}
use Rattle.serde_json.specs.Data.{Num, unsigned, negative, float, Data, null, boolean, number, string, array, object, Items, no_items, item, Members, no_members, member, put, depth, items_depth, members_depth}
use Rattle.serde_json.specs.Read.{number_of, of_json, of_items, of_members, read, max_depth}
use Rattle.serde_json.specs.Written.{number_text, outline, items_outline, members_outline, comma_if, compact_text, items_text, members_text}
use Rattle.serde_json.proofs.Numbers.{number_of-decimal}
use Rattle.serde_json.proofs.Texts.{print-outline}
use Rattle.json_kinds.specs.Json.{json_in}
use Rattle.status_file.specs.Values.{AreFitItems, AreFitMembers, IsFit, IsFitNumber, sorted, sorted_items, sorted_onto}

-- ---- UTF-8

small_byte : (x : ℕ) → x < 128 → nat_lt x 128 ≡ true
small_byte x h = grind (arith, nat_tests, h)

ascii_glyph : (n : ℕ) → nat_lt (digit_glyph false (n % 10)) 128 ≡ true
ascii_glyph n = go (nat_lt (n % 10) 10) where
  go : (b : Bool) → nat_lt (cond b (48 + n % 10) (87 + n % 10)) 128 ≡ true
  go true = small_byte (48 + n % 10) (omega arith)
  go false = small_byte (87 + n % 10) (omega arith)

ascii_digits : (k n : ℕ) (acc : List ℕ) → are_ascii acc ≡ true → are_ascii (digits_onto k 10 false n acc) ≡ true
ascii_digits zero n acc h = h
ascii_digits (suc k) n acc h =
    let here = and_from (nat_lt (digit_glyph false (n % 10)) 128) (are_ascii acc) (ascii_glyph n) h in
    go (n / 10 == 0) here (ascii_digits k (n / 10) (digit_glyph false (n % 10) ∷ acc) here) where
      go : (b : Bool) → are_ascii (digit_glyph false (n % 10) ∷ acc) ≡ true → are_ascii (digits_onto k 10 false (n / 10) (digit_glyph false (n % 10) ∷ acc)) ≡ true →
          are_ascii (cond b (digit_glyph false (n % 10) ∷ acc) (digits_onto k 10 false (n / 10) (digit_glyph false (n % 10) ∷ acc))) ≡ true
      go true here there = here
      go false here there = there

ascii_decimal : (n : ℕ) → are_ascii (decimal n) ≡ true
unfolding digits
ascii_decimal n = ascii_digits 64 n [] refl

utf8_number : (n : Num) → IsFitNumber n → IsUtf8 (number_text n)
utf8_number (unsigned n) h = IsUtf8-are_ascii (decimal n) (ascii_decimal n)
utf8_number (negative z) h = absurd h
utf8_number (float x) h = absurd h

utf8_comma : (later : Bool) → IsUtf8 (comma_if later)
utf8_comma true = IsUtf8-are_ascii (44 ∷ []) refl
utf8_comma false = IsUtf8-nil

mutual
  utf8_text : (d : Data) → IsFit d → IsUtf8 (compact_text d)
  utf8_text null h = IsUtf8-are_ascii _ refl
  utf8_text (boolean b) h = IsUtf8-boolean b
  utf8_text (number n) h = utf8_number n h
  utf8_text (string s) h = IsUtf8-quoted s h
  utf8_text (array ds) h = IsUtf8-append (91 ∷ []) (items_text false ds) (IsUtf8-are_ascii (91 ∷ []) refl) (utf8_items false ds h)
  utf8_text (object ms) h = IsUtf8-append (123 ∷ []) (members_text false ms) (IsUtf8-are_ascii (123 ∷ []) refl) (utf8_members false ms h)

  utf8_items : (later : Bool) (ds : Items) → AreFitItems ds → IsUtf8 (items_text later ds)
  utf8_items later no_items h = IsUtf8-are_ascii (93 ∷ []) refl
  utf8_items later (item d ds) h =
      IsUtf8-append (comma_if later) (compact_text d ++ items_text true ds) (utf8_comma later)
      (IsUtf8-append (compact_text d) (items_text true ds) (utf8_text d h.0) (utf8_items true ds h.1))

  utf8_members : (later : Bool) (ms : Members) → AreFitMembers ms → IsUtf8 (members_text later ms)
  utf8_members later no_members h = IsUtf8-are_ascii (125 ∷ []) refl
  utf8_members later (member k d ms) h =
      IsUtf8-append (comma_if later) _ (utf8_comma later)
      (IsUtf8-append (quoted k) (58 ∷ (compact_text d ++ members_text true ms)) (IsUtf8-quoted k h.0)
      (IsUtf8-append (58 ∷ []) (compact_text d ++ members_text true ms) (IsUtf8-are_ascii (58 ∷ []) refl) (IsUtf8-append (compact_text d) (members_text true ms) (utf8_text d h.1) (utf8_members true ms h.2))))

-- ---- numbers

number_is : (n : Num) → IsFitNumber n → number_of (number_text n) ≡ Some n
number_is (unsigned n) h = number_of-decimal n h
number_is (negative z) h = absurd h
number_is (float x) h = absurd h

mutual
  numbers_in : (d : Data) → IsFit d → tree.HasNumbers (outline d)
  numbers_in null h = tt
  numbers_in (boolean b) h = tt
  numbers_in (number (unsigned n)) h = IsNumber-decimal n h
  numbers_in (number (negative z)) h = absurd h
  numbers_in (number (float x)) h = absurd h
  numbers_in (string s) h = tt
  numbers_in (array ds) h = numbers_listed ds h
  numbers_in (object ms) h = numbers_among ms h

  numbers_listed : (ds : Items) → AreFitItems ds → tree.ItemsHaveNumbers (items_outline ds)
  numbers_listed no_items h = tt
  numbers_listed (item d ds) h = (numbers_in d h.0, numbers_listed ds h.1)

  numbers_among : (ms : Members) → AreFitMembers ms → tree.MembersHaveNumbers (members_outline ms)
  numbers_among no_members h = tt
  numbers_among (member k d ms) h = (numbers_in d h.1, numbers_among ms h.2)

-- ---- the value that is read

mutual
  outline_back : (d : Data) → IsFit d → of_json (outline d) ≡ Some (sorted d)
  outline_back null h = refl
  outline_back (boolean b) h = refl
  outline_back (number n) h = ap (option_map number) (number_is n h)
  outline_back (string s) h = refl
  outline_back (array ds) h = ap (option_map array) (items_back ds h)
  outline_back (object ms) h = ap (option_map object) (members_back ms no_members h)

  items_back : (ds : Items) → AreFitItems ds → of_items (items_outline ds) ≡ Some (sorted_items ds)
  items_back no_items h = refl
  items_back (item d ds) h =
      ap (option_and_then (λ e. option_map (item e) (of_items (items_outline ds)))) (outline_back d h.0) ∙ ap (option_map (item (sorted d))) (items_back ds h.1)

  members_back : (ms found : Members) → AreFitMembers ms → of_members (members_outline ms) found ≡ Some (sorted_onto ms found)
  members_back no_members found h = refl
  members_back (member k d ms) found h =
      ap (option_and_then (λ e. of_members (members_outline ms) (put k e found))) (outline_back d h.1) ∙ members_back ms (put k (sorted d) found) h.2

mutual
  same_depth : (d : Data) → tree.depth (outline d) ≡ depth d
  same_depth null = refl
  same_depth (boolean b) = refl
  same_depth (number n) = refl
  same_depth (string s) = refl
  same_depth (array ds) = ap suc (same_items ds)
  same_depth (object ms) = ap suc (same_depths ms)

  same_items : (ds : Items) → tree.items_depth (items_outline ds) ≡ items_depth ds
  same_items no_items = refl
  same_items (item d ds) = let one = same_depth d in let more = same_items ds in rw (one, more) refl

  same_depths : (ms : Members) → tree.members_depth (members_outline ms) ≡ members_depth ms
  same_depths no_members = refl
  same_depths (member k d ms) = let one = same_depth d in let more = same_depths ms in rw (one, more) refl

tokens_of : (d : Data) → IsFit d → tokens (compact_text d) ≡ tree.json_tokens (outline d) ++ []
tokens_of d h =
    ap tokens (sym (print-outline d)) ∙ tokens-print (tree.json_tokens (outline d)) (ArePrintable-json_tokens (outline d) (numbers_in d h)) ∙ sym (append-nil (tree.json_tokens (outline d)))

text_back : (d : Data) → IsFit d → depth d ≤ max_depth → json_in (compact_text d) ≡ Some (sorted d)
text_back d h shallow =
    let room : tree.depth (outline d) ≤ max_depth = subst (λ n. n ≤ max_depth) (sym (same_depth d)) shallow in
    ap (λ b. if b then read (compact_text d) else None) (is_utf8-from_IsUtf8 (compact_text d) (utf8_text d h))
    ∙ ap (λ o. option_and_then of_json (option_and_then (λ p. json.if_last p.0 p.1) o)) (ap (json.value max_depth) (tokens_of d h) ∙ value-json_tokens (outline d) max_depth [] room)
    ∙ outline_back d h

-- the print of a value's tokens is read as the value
pub print_back : (d : Data) → IsFit d → depth d ≤ max_depth → json_in (print (tree.json_tokens (outline d))) ≡ Some (sorted d)
print_back d h shallow = ap json_in (print-outline d) ∙ text_back d h shallow
