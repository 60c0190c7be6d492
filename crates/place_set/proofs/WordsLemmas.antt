-- One number of a set of places is changed, or one more is added.
use Rattle.std.proofs.Common.{◌≡◌, ◌≢◌, ℕ, zero, suc, nat_lt, ◌+◌, ◌*◌, ◌/◌, ◌%◌, ◌==◌, ◌<◌, ◌≤◌, List, [], ◌∷◌, ◌++◌, length, Bool, true, false, refl, sym, ap, ◌∙◌, inl, inr, arith}
use Rattle.std.specs.Prelude.{slice_set, slice_index_or}
use Rattle.std.proofs.lemmas.Bool.{cases_eq}
use Rattle.std.proofs.lemmas.Bool.Decides.{nat_tests}
use Rattle.std.proofs.lemmas.Nat.Bits.{bit_at-zero}
use Rattle.std.specs.Int.{bit_at}
use Rattle.place_set.specs.Places.{has_bit}

get-zero : (words : List ℕ) (k : ℕ) → slice_index_or (words ++ 0 ∷ []) k 0 ≡ slice_index_or words k 0
get-zero [] zero = refl
get-zero [] (suc k) = refl
get-zero (w ∷ ws) zero = refl
get-zero (w ∷ ws) (suc k) = get-zero ws k

-- one more number without a bit adds no place
pub more-words : (words : List ℕ) (place : ℕ) → has_bit (words ++ 0 ∷ []) place ≡ has_bit words place
more-words words place = ap (λ w. bit_at w (place % 64) == 1) (get-zero words (place / 64))

get-set : (words : List ℕ) (k word : ℕ) → k < length words → slice_index_or (slice_set words k word) k 0 ≡ word
get-set [] k word within = absurd (omega (arith, within))
get-set (w ∷ ws) zero word within = refl
get-set (w ∷ ws) (suc k) word within = get-set ws k word (omega (arith, within))

pub get-other : (words : List ℕ) (k j word : ℕ) → j ≢ k → slice_index_or (slice_set words k word) j 0 ≡ slice_index_or words j 0
get-other [] k j word differ = refl
get-other (w ∷ ws) zero zero word differ = absurd (differ refl)
get-other (w ∷ ws) zero (suc j) word differ = refl
get-other (w ∷ ws) (suc k) zero word differ = refl
get-other (w ∷ ws) (suc k) (suc j) word differ = get-other ws k j word (λ same. differ (omega (arith, same)))

one-is : (n m : ℕ) → n ≡ m → (n == 1) ≡ (m == 1)
one-is n m same = ap (λ x. x == 1) same

-- what of the numbers goes by the number at one place, if it alone is another
module _ (words : List ℕ) (at word : ℕ) (within : at < length words) where
  word-at : (place : ℕ) → place / 64 ≡ at → has_bit (slice_set words at word) place ≡ (bit_at word (place % 64) == 1)
  word-at place is = ap (λ w. bit_at w (place % 64) == 1) (ap (λ k. slice_index_or (slice_set words at word) k 0) is ∙ get-set words at word within)

  -- if each bit of the number but one is as it was, so is each place but one
  pub others-stay : (place : ℕ) → place / 64 ≡ at → ((bit : ℕ) → bit < 64 → bit ≢ place % 64 → bit_at word bit ≡ bit_at (slice_index_or words at 0) bit) →
      (other : ℕ) → other ≢ place → has_bit (slice_set words at word) other ≡ has_bit words other
  others-stay place is same other differ = elim (cases_eq (other / 64) at) [
    | inl here ↦
        word-at other here
        ∙ one-is (bit_at word (other % 64)) (bit_at (slice_index_or words at 0) (other % 64)) (same (other % 64) (omega arith) (λ equal. differ (omega (arith, is, here, equal))))
        ∙ ap (λ k. bit_at (slice_index_or words k 0) (other % 64) == 1) (sym here)
    | inr apart ↦ ap (λ w. bit_at w (other % 64) == 1) (get-other words at (other / 64) word apart)
  ]

  pub own-bit : (place : ℕ) → place / 64 ≡ at → (bit : ℕ) → bit_at word (place % 64) ≡ bit → has_bit (slice_set words at word) place ≡ (bit == 1)
  own-bit place is bit own = word-at place is ∙ one-is (bit_at word (place % 64)) bit own

-- no place of a number without a bit is among them
pub none-in : (words : List ℕ) (at : ℕ) → slice_index_or words at 0 ≡ 0 → (place : ℕ) → place / 64 ≡ at → has_bit words place ≡ false
none-in words at none place is = ap (λ w. bit_at w (place % 64) == 1) (ap (λ k. slice_index_or words k 0) is ∙ none) ∙ ap (λ b. b == 1) (bit_at-zero (place % 64))

-- nor is one past the last number
past : (words : List ℕ) (k : ℕ) → length words ≤ k → slice_index_or words k 0 ≡ 0
past [] zero over = refl
past [] (suc k) over = refl
past (w ∷ ws) zero over = absurd (omega (arith, over))
past (w ∷ ws) (suc k) over = past ws k (omega (arith, over))

pub none-past : (words : List ℕ) (place : ℕ) → length words ≤ place / 64 → has_bit words place ≡ false
none-past words place over = none-in words (place / 64) (past words (place / 64) over) place refl

pub word-is : (words : List ℕ) (k d : ℕ) → k < length words → slice_index_or words k d ≡ slice_index_or words k 0
word-is [] k d within = absurd (omega (arith, within))
word-is (w ∷ ws) zero d within = refl
word-is (w ∷ ws) (suc k) d within = word-is ws k d (omega (arith, within))

-- no place before the lowest bit of the first number with a bit is among them
pub none-before : (words : List ℕ) (at bit : ℕ) → ((k : ℕ) → k < at → slice_index_or words k 0 ≡ 0) → ((i : ℕ) → i < bit → bit_at (slice_index_or words at 0) i ≡ 0) → bit < 64 →
    (lesser : ℕ) → lesser < at * 64 + bit → has_bit words lesser ≡ false
none-before words at bit low none small lesser less = go (nat_lt (lesser / 64) at) refl
  where
    go : (b : Bool) → nat_lt (lesser / 64) at ≡ b → has_bit words lesser ≡ false
    go true is = none-in words (lesser / 64) (low (lesser / 64) (grind (arith, nat_tests, is))) lesser refl
    go false is =
        let over : at ≤ lesser / 64 = grind (arith, nat_tests, is) in
        let here : lesser / 64 ≡ at = omega (arith, less, small, over) in
        ap (λ k. bit_at (slice_index_or words k 0) (lesser % 64) == 1) here ∙ ap (λ b. b == 1) (none (lesser % 64) (omega (arith, less, here, small)))
