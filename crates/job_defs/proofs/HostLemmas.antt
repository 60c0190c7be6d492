-- Numbers and dots.
use Rattle.std.proofs.Common.{◌≡◌, ◌<◌, ◌≤◌, ℕ, Bool, true, false, nat_lt, nat_le, List, [], ◌∷◌, length, Option, Some, None, MatchOption, Result, Ok, Bor, refl, sym, ap, ◌∙◌, arith, rules}
use Rattle.std.specs.List.{list_all, slice_split, onto_first, position_or_len}
use Rattle.std.specs.Result.{result_ok}
use Rattle.std.specs.Str.Parse.{digits_value, ParsesUnsigned}
use Rattle.std.proofs.lemmas.List.Splits.{slice_split_first, slice_split-cons_no, length-slice_split}
use Rattle.std.proofs.lemmas.Str.Pattern.{IsSplitOnceResult, split_once_first}
use Rattle.std.proofs.lemmas.Str.Parse.{IsNumeralModel, numerals_by_value, parse_gives, digits_value_short}
use Rattle.std.proofs.lemmas.Bool.Decides.{nat_tests}
use Rattle.json_kinds.specs.Digits.{is_digit}
use Rattle.job_defs.specs.Sockets.{is_dot, number_in, octets_in}

-- ---- dots

whole_at : (b : Bool) (x : ℕ) (xs : List ℕ) → is_dot x ≡ b → (position_or_len is_dot xs ≡ length xs → slice_split is_dot xs ≡ xs ∷ []) → position_or_len is_dot (x ∷ xs) ≡ length (x ∷ xs)
    → slice_split is_dot (x ∷ xs) ≡ (x ∷ xs) ∷ []
whole_at true x xs is rest h = absurd (omega (arith, rw is at h))
whole_at false x xs is rest h =
    let inner : position_or_len is_dot xs ≡ length xs = omega (arith, rw is at h) in
    slice_split-cons_no is_dot x xs is ∙ ap (onto_first x) (rest inner)

-- a text without a dot is one part
whole : (bs : List ℕ) → position_or_len is_dot bs ≡ length bs → slice_split is_dot bs ≡ bs ∷ []
whole [] h = refl
whole (x ∷ xs) h = whole_at (is_dot x) x xs refl (whole xs) h

pub parts_of : (bs : List ℕ) (r : Option (Bor (List ℕ) × Bor (List ℕ))) → IsSplitOnceResult 46 bs r
    → MatchOption r (slice_split is_dot bs ≡ bs ∷ []) (λ parts. slice_split is_dot bs ≡ parts.0.now ∷ slice_split is_dot parts.1.now)
parts_of bs None split = whole bs (split_once_first 46 bs None split (omega arith))
parts_of bs (Some parts) split =
    let (inside, front, back) = split_once_first 46 bs (Some parts) split (omega arith) in
    rw (front, back) (slice_split_first is_dot bs 0 inside)

too_many : (a b c d : List ℕ) (ps : List (List ℕ)) → 0 < length ps → octets_in (a ∷ b ∷ c ∷ d ∷ ps) ≡ None
too_many a b c d [] h = absurd (omega (arith, h))
too_many a b c d (p ∷ ps) h = refl

-- more than four parts
pub five_parts : (a b c d rest : List ℕ) → octets_in (a ∷ b ∷ c ∷ d ∷ slice_split is_dot rest) ≡ None
five_parts a b c d rest = too_many a b c d (slice_split is_dot rest) (omega (arith, length-slice_split is_dot rest))

-- ---- digits

own : IsNumeralModel (λ ds. list_all is_digit ds ≡ true) (digits_value 10)
own = numerals_by_value _ (search rules)

pub number_is : {E : Type 0} (most : ℕ) (bs : List ℕ) (r : Result ℕ E) → ParsesUnsigned 32 10 bs r → most ≤ 9 → 0 < length bs → length bs ≤ most → list_all is_digit bs ≡ true
    → result_ok r ≡ number_in most bs
unfolding number_in
number_is most bs r parses bound some few digits =
    let e : r ≡ Ok (digits_value 10 bs) = parse_gives own 32 bs r parses digits some (omega (arith, digits_value_short own bs 9 digits (omega (arith, few, bound)))) in
    let t : nat_lt 0 (length bs) ≡ true = grind (arith, nat_tests) in
    let u : nat_le (length bs) most ≡ true = grind (arith, nat_tests) in
    let n : number_in most bs ≡ Some (digits_value 10 bs) = rw (t, u, digits) refl in
    ap result_ok e ∙ sym n
