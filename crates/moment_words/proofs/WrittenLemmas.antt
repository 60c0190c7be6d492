-- A number grows by each digit more.
use Rattle.std.proofs.Common.{◌≡◌, ℕ, suc, ◌≤◌, ◌<◌, ◌*◌, ◌+◌, ◌-◌, ◌^◌, false, List, [], ◌∷◌, None, length, drop, get_or, drop-cons, refl, ap, arith}
use Rattle.std.specs.Prelude.{nat_le}
use Rattle.std.proofs.lemmas.Bool.{lt-leb}
use Rattle.moment_words.specs.Written.{number_of, value_behind}

pub value_grows : (value : ℕ) (digits : List ℕ) → value ≤ value_behind value digits
value_grows value [] = omega arith
value_grows value (digit ∷ digits) =
    let more : value * 10 + (digit - 48) ≤ value_behind (value * 10 + (digit - 48)) digits = value_grows (value * 10 + (digit - 48)) digits in
    omega (arith, more)

pub too_great : (digits : List ℕ) (most : ℕ) → most < value_behind 0 digits → number_of digits most ≡ None
too_great digits most above =
    let e : nat_le (value_behind 0 digits) most ≡ false = lt-leb (value_behind 0 digits) most above in rw e refl

-- a number that one digit more takes past what fits
pub over : (digits : List ℕ) (most value i : ℕ) → i < length digits → value_behind 0 digits ≡ value_behind value (drop i digits) →
    most < 2 ^ 64 → 2 ^ 64 ≤ value * 10 + (get_or digits i 0 - 48) → number_of digits most ≡ None
over digits most value i below so_far fits above = too_great digits most big where
  step : value_behind value (drop i digits) ≡ value_behind (value * 10 + (get_or digits i 0 - 48)) (drop (suc i) digits)
  step = ap (value_behind value) (drop-cons digits i 0 below)

  big : most < value_behind 0 digits
  big =
      let grows : value * 10 + (get_or digits i 0 - 48) ≤ value_behind (value * 10 + (get_or digits i 0 - 48)) (drop (suc i) digits)
      = value_grows (value * 10 + (get_or digits i 0 - 48)) (drop (suc i) digits) in
      omega (arith, grows, step, so_far)
