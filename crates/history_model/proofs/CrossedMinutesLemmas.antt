-- The counted minutes are those that are crossed.
use Rattle.std.proofs.Common.{◌≡◌, ℕ, suc, zero, ◌+◌, ◌-◌, ◌*◌, ◌/◌, ◌==◌, ◌<◌, ◌≤◌, Bool, true, false, ◌||◌, refl, arith}
use Rattle.std.specs.Prelude.{max}
use Rattle.std.proofs.lemmas.Bool.{eqb-true}
use Rattle.std.proofs.lemmas.Bool.Decides.{nat_tests}
use Rattle.std.specs.List.{list_any, AllByRecursion}
use Rattle.history_model.specs.declared.TheConstants.{CALENDAR_REACH}
use Rattle.history_model.specs.Calendar.{IsCrossed, minutes_above, last_before, crossed}
use Rattle.history_model.specs.MachineLaws.{IsRising}

-- the minute m is the multiple number j of 60, above k and at most k + n
abbrev IsCounted : ℕ → ℕ → ℕ → ℕ → Type 0
IsCounted k n m j = (k < j) × (j ≤ k + n) × (60 * j ≡ m)

counted : (k n m : ℕ) → list_any (λ c. c == m) (minutes_above k n) ≡ true → (j : ℕ) × IsCounted k n m j
counted k zero m e = cc
counted k (suc n) m e = go (counted (k + 1) n m) (60 * (k + 1) == m) refl e where
  go : (list_any (λ c. c == m) (minutes_above (k + 1) n) ≡ true → (j : ℕ) × IsCounted (k + 1) n m j) →
      (b : Bool) → (60 * (k + 1) == m) ≡ b → (b || list_any (λ c. c == m) (minutes_above (k + 1) n)) ≡ true → (j : ℕ) × IsCounted k (suc n) m j
  go later true is e = (k + 1, (omega arith, omega arith, eqb-true (60 * (k + 1)) m is))
  go later false is e =
      let found = later e in
      let above : k + 1 < found.0 = found.1.0 in
      let below : found.0 ≤ k + 1 + n = found.1.1 in
      (found.0, (omega (arith, above), omega (arith, below), found.1.2))

found_at : (k n j : ℕ) → k < j → j ≤ k + n → list_any (λ c. c == 60 * j) (minutes_above k n) ≡ true
found_at k zero j above below = absurd (omega (arith, above, below))
found_at k (suc n) j above below = go (found_at (k + 1) n j) (60 * (k + 1) == 60 * j) refl where
  go : (k + 1 < j → j ≤ k + 1 + n → list_any (λ c. c == 60 * j) (minutes_above (k + 1) n) ≡ true) →
      (b : Bool) → (60 * (k + 1) == 60 * j) ≡ b → (b || list_any (λ c. c == 60 * j) (minutes_above (k + 1) n)) ≡ true
  go later true is = refl
  go later false is = later (grind (arith, nat_tests, is, above)) (omega (arith, below))

rising_from : (k n : ℕ) → IsRising (minutes_above k n)
rising_from k zero = tt
rising_from k (suc n) = (above (60 * (k + 1)) (k + 1) n (omega arith), rising_from (k + 1) n) where
  above : (least k n : ℕ) → least < 60 * (k + 1) → AllByRecursion (λ d. least < d) (minutes_above k n)
  above least k zero less = tt
  above least k (suc n) less = (less, above least (k + 1) n (omega (arith, less)))

module _ (previous wall m : ℕ) where
  crossed-is : list_any (λ c. c == m) (crossed previous wall) ≡ true → IsCrossed previous wall m
  crossed-is e =
      let found = counted (last_before previous wall) (wall / 60 - last_before previous wall) m e in
      let j : ℕ = found.0 in
      let above : max (previous / 60) ((wall - CALENDAR_REACH) / 60) < j = found.1.0 in
      let below : j ≤ max (previous / 60) ((wall - CALENDAR_REACH) / 60) + (wall / 60 - max (previous / 60) ((wall - CALENDAR_REACH) / 60)) = found.1.1 in
      let same : 60 * j ≡ m = found.1.2 in
      (omega (arith, same), omega (arith, same, above), omega (arith, same, above, below), omega (arith, same, above))

  is-crossed : IsCrossed previous wall m → list_any (λ c. c == m) (crossed previous wall) ≡ true
  is-crossed (whole, after, within, recent) =
      let same : 60 * (m / 60) ≡ m = omega (arith, whole) in
      let above : last_before previous wall < m / 60 = omega (arith, same, after, recent) in
      let below : m / 60 ≤ last_before previous wall + (wall / 60 - last_before previous wall) = omega (arith, same, within) in
      let there = found_at (last_before previous wall) (wall / 60 - last_before previous wall) (m / 60) above below in
      rw (← same) there

pub members : (previous wall m : ℕ) → (list_any (λ c. c == m) (crossed previous wall) ≡ true → IsCrossed previous wall m) × (IsCrossed previous wall m → list_any (λ c. c == m) (crossed previous wall) ≡ true)
members previous wall m = (crossed-is previous wall m, is-crossed previous wall m)

pub rises : (previous wall : ℕ) → IsRising (crossed previous wall)
rises previous wall = rising_from (last_before previous wall) (wall / 60 - last_before previous wall)
