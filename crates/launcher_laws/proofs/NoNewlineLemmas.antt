-- The text of a value is one line: no byte of it is a newline.
use Rattle.std.proofs.Common.{◌≡◌, ℕ, zero, suc, ◌+◌, ◌/◌, ◌%◌, ◌==◌, ◌<◌, pos, negsuc, List, [], ◌∷◌, ◌++◌, Bool, true, false, not, ◌&&◌, cond, nat_eq, nat_lt, inl, inr, decimal, refl, sym, ap, ◌∙◌, arith, append_assoc, append-nil}
use Rattle.std.specs.List.{list_all}
use Rattle.std.specs.Fmt.{digits, digits_onto, digit_glyph}
use Rattle.std.proofs.lemmas.Bool.{and_from, and_parts, cases_lt, cases_eq}
use Rattle.std.proofs.lemmas.Bool.Decides.{nat_tests}
use Rattle.std.proofs.lemmas.List.Folds.{list_all-append}
use Rattle.json.specs.Print.{escape_byte, escape, quoted}
use Rattle.json.proofs.Printed.Strings.{escape_byte_plain}
use Rattle.serde_json.specs.Data.{Num, unsigned, negative, float, Data, null, boolean, number, string, array, object, Items, no_items, item, Members, no_members, member}
use Rattle.serde_json.specs.Written.{number_text, comma_if, compact_text, items_text, members_text}
use Rattle.ctl_protocol.specs.Lines.{lines_after, rest_after, lines_of, rest_of}

abbrev pub is_other : ℕ → Bool
is_other b = not (nat_eq b 10)

abbrev pub is_free : List ℕ → Bool
is_free text = list_all is_other text

pub free_append : (xs ys : List ℕ) → is_free xs ≡ true → is_free ys ≡ true → is_free (xs ++ ys) ≡ true
free_append xs ys h k = list_all-append is_other xs ys ∙ and_from (is_free xs) (is_free ys) h k

-- ---- strings

abbrev escapes_below : ℕ → Bool
escapes_below zero = true
escapes_below (suc n) = is_free (escape_byte n) && escapes_below n

escape_below : (n : ℕ) → escapes_below n ≡ true → (x : ℕ) → x < n → is_free (escape_byte x) ≡ true
escape_below zero e x h = absurd (omega arith)
escape_below (suc n) e x h =
    let p = and_parts (is_free (escape_byte n)) (escapes_below n) e in
    elim (cases_eq x n) [ inl same ↦ rw same p.0 | inr other ↦ escape_below n p.1 x (omega arith) ]

low_escapes : escapes_below 93 ≡ true
unfolding escape_byte
low_escapes = refl

other_byte : (x : ℕ) → 10 < x → is_other x ≡ true
other_byte x h = grind (arith, nat_tests, h)

free_byte : (x : ℕ) → is_free (escape_byte x) ≡ true
free_byte x = elim (cases_lt x 93) [
  | inl small ↦ escape_below 93 low_escapes x small
  | inr big ↦ ap is_free (escape_byte_plain x (λ e. omega arith) (λ e. omega arith) (omega arith)) ∙ and_from (is_other x) true (other_byte x (omega arith)) refl
]

free_escape : (s : List ℕ) → is_free (escape s) ≡ true
free_escape [] = refl
free_escape (x ∷ xs) = free_append (escape_byte x) (escape xs) (free_byte x) (free_escape xs)

free_quoted : (s : List ℕ) → is_free (quoted s) ≡ true
free_quoted s = free_append (escape s) (34 ∷ []) (free_escape s) refl

-- ---- numbers

free_glyph : (n : ℕ) → is_other (digit_glyph false n) ≡ true
free_glyph n = go (nat_lt n 10) where
  go : (b : Bool) → is_other (cond b (48 + n) (87 + n)) ≡ true
  go true = other_byte (48 + n) (omega arith)
  go false = other_byte (87 + n) (omega arith)

free_digits : (k n : ℕ) (acc : List ℕ) → is_free acc ≡ true → is_free (digits_onto k 10 false n acc) ≡ true
free_digits zero n acc h = h
free_digits (suc k) n acc h =
    let here = and_from (is_other (digit_glyph false (n % 10))) (is_free acc) (free_glyph (n % 10)) h in
    go (n / 10 == 0) here (free_digits k (n / 10) (digit_glyph false (n % 10) ∷ acc) here) where
      go : (b : Bool) → is_free (digit_glyph false (n % 10) ∷ acc) ≡ true → is_free (digits_onto k 10 false (n / 10) (digit_glyph false (n % 10) ∷ acc)) ≡ true →
          is_free (cond b (digit_glyph false (n % 10) ∷ acc) (digits_onto k 10 false (n / 10) (digit_glyph false (n % 10) ∷ acc))) ≡ true
      go true here there = here
      go false here there = there

free_decimal : (n : ℕ) → is_free (decimal n) ≡ true
unfolding digits
free_decimal n = free_digits 64 n [] refl

free_number : (n : Num) → is_free (number_text n) ≡ true
free_number (unsigned n) = free_decimal n
free_number (negative (pos n)) = free_decimal n
free_number (negative (negsuc n)) = free_decimal (suc n)
free_number (float x) = refl

-- ---- values

free_comma : (later : Bool) → is_free (comma_if later) ≡ true
free_comma true = refl
free_comma false = refl

mutual
  pub free_text : (d : Data) → is_free (compact_text d) ≡ true
  free_text null = refl
  free_text (boolean true) = refl
  free_text (boolean false) = refl
  free_text (number n) = free_number n
  free_text (string s) = free_quoted s
  free_text (array ds) = free_items false ds
  free_text (object ms) = free_members false ms

  free_items : (later : Bool) (ds : Items) → is_free (items_text later ds) ≡ true
  free_items later no_items = refl
  free_items later (item d ds) =
      free_append (comma_if later) (compact_text d ++ items_text true ds) (free_comma later) (free_append (compact_text d) (items_text true ds) (free_text d) (free_items true ds))

  free_members : (later : Bool) (ms : Members) → is_free (members_text later ms) ≡ true
  free_members later no_members = refl
  free_members later (member k d ms) =
      free_append (comma_if later) (quoted k ++ 58 ∷ (compact_text d ++ members_text true ms)) (free_comma later)
      (free_append (quoted k) (58 ∷ (compact_text d ++ members_text true ms)) (free_quoted k) (free_append (compact_text d) (members_text true ms) (free_text d) (free_members true ms)))

-- ---- the lines of a text

cut_lines : (t : Bool) (line : List ℕ) (b : ℕ) (bs rest : List ℕ) → nat_eq b 10 ≡ t → not t ≡ true
    → lines_after (line ++ b ∷ []) (bs ++ 10 ∷ rest) ≡ ((line ++ b ∷ []) ++ bs) ∷ lines_after [] rest
    → lines_after line (b ∷ (bs ++ 10 ∷ rest)) ≡ (line ++ b ∷ bs) ∷ lines_after [] rest
unfolding lines_after
cut_lines true line b bs rest is other more = absurd (cc)
cut_lines false line b bs rest is other more =
    ap (λ t. cond t (line ∷ lines_after [] (bs ++ 10 ∷ rest)) (lines_after (line ++ b ∷ []) (bs ++ 10 ∷ rest))) is ∙ more ∙ ap (λ l. l ∷ lines_after [] rest) (append_assoc line (b ∷ []) bs)

lines_from : (line text rest : List ℕ) → is_free text ≡ true → lines_after line (text ++ 10 ∷ rest) ≡ (line ++ text) ∷ lines_after [] rest
unfolding lines_after
lines_from line [] rest h = ap (λ l. l ∷ lines_after [] rest) (sym (append-nil line))
lines_from line (b ∷ bs) rest h =
    let p = and_parts (is_other b) (is_free bs) h in
    cut_lines (nat_eq b 10) line b bs rest refl p.0 (lines_from (line ++ b ∷ []) bs rest p.1)

-- a text with no newline, and then one, is a line
pub one_line : (text rest : List ℕ) → is_free text ≡ true → lines_of (text ++ 10 ∷ rest) ≡ text ∷ lines_of rest
one_line text rest h = lines_from [] text rest h

rest_cut : (t : Bool) (line : List ℕ) (b : ℕ) (bs rest : List ℕ) → nat_eq b 10 ≡ t → not t ≡ true
    → rest_after (line ++ b ∷ []) (bs ++ 10 ∷ rest) ≡ rest_after [] rest → rest_after line (b ∷ (bs ++ 10 ∷ rest)) ≡ rest_after [] rest
unfolding rest_after
rest_cut true line b bs rest is other more = absurd (cc)
rest_cut false line b bs rest is other more = ap (λ t. cond t (rest_after [] (bs ++ 10 ∷ rest)) (rest_after (line ++ b ∷ []) (bs ++ 10 ∷ rest))) is ∙ more

rest_from : (line text rest : List ℕ) → is_free text ≡ true → rest_after line (text ++ 10 ∷ rest) ≡ rest_after [] rest
unfolding rest_after
rest_from line [] rest h = refl
rest_from line (b ∷ bs) rest h =
    let p = and_parts (is_other b) (is_free bs) h in
    rest_cut (nat_eq b 10) line b bs rest refl p.0 (rest_from (line ++ b ∷ []) bs rest p.1)

-- and nothing of it is left over
pub no_rest : (text rest : List ℕ) → is_free text ≡ true → rest_of (text ++ 10 ∷ rest) ≡ rest_of rest
no_rest text rest h = rest_from [] text rest h
