-- The ends of an interval's periods: which of them lie between two moments, and which is next.
use Rattle.std.proofs.Common.{◌≡◌, ℕ, ◌+◌, ◌-◌, ◌*◌, ◌/◌, ◌<◌, ◌≤◌, ◌↔◌, Bool, true, IsTrue, Option, Some, refl, subst, arith, nat_lt}
use Rattle.std.proofs.lemmas.Bool.Decides.{nat_tests}
use Rattle.std.proofs.Math.Nat.{div-lt_iff_lt-mul, le-div_iff_mul-le, div-mul-le_self, mul-le-mul_right}
use Rattle.history_model.specs.Clock.{periods, crosses_interval}
use Rattle.history_model.specs.Moments.{IsPeriod}
use Rattle.pace.specs.PaceMoments.{IsNext}
use Rattle.history_model.specs.declared.TheConstants.{SECOND}

-- a multiple of a period is not 0
some-periods : (seconds k : ℕ) → 0 < seconds → 1 ≤ k → 0 < k * (SECOND * seconds)
some-periods seconds k some one =
    let le : 1 * (SECOND * seconds) ≤ k * (SECOND * seconds) = mul-le-mul_right (SECOND * seconds) one in omega (arith, le, some)

module _ (seconds load : ℕ) (some : 0 < seconds) where
  period-some : 0 < SECOND * seconds
  period-some = omega (arith, some)

  crossed-at : (previous up : ℕ) → nat_lt (periods seconds (previous - load)) (periods seconds (up - load)) ≡ true →
      (m : ℕ) × IsPeriod (Some seconds) load m × (previous < m) × (m ≤ up)
  crossed-at previous up e =
      let less : (previous - load) / (SECOND * seconds) < (up - load) / (SECOND * seconds) = grind (arith, nat_tests, e) in
      let above : previous - load < (up - load) / (SECOND * seconds) * (SECOND * seconds) = (div-lt_iff_lt-mul period-some).0 less in
      let below : (up - load) / (SECOND * seconds) * (SECOND * seconds) ≤ up - load = div-mul-le_self (up - load) (SECOND * seconds) in (
        load + SECOND * ((up - load) / (SECOND * seconds)) * seconds,
        ((up - load) / (SECOND * seconds), omega (arith, less), refl),
        omega (arith, above, below),
        omega (arith, above, below),
      )

  found-at : (previous up : ℕ) → (m : ℕ) × IsPeriod (Some seconds) load m × (previous < m) × (m ≤ up) →
      nat_lt (periods seconds (previous - load)) (periods seconds (up - load)) ≡ true
  found-at previous up (m, (k, one, is), above, below) =
      let there = some-periods seconds k some one in
      let a : previous - load < k * (SECOND * seconds) = omega (arith, above, is, there) in
      let b : k * (SECOND * seconds) ≤ up - load = omega (arith, below, is, there) in
      let c : (previous - load) / (SECOND * seconds) < k = (div-lt_iff_lt-mul period-some).1 a in
      let d : k ≤ (up - load) / (SECOND * seconds) = (le-div_iff_mul-le period-some).1 b in
      grind (arith, nat_tests, c, d)

  -- an interval is crossed exactly if an end of a period lies between the two moments
  pub crossed-period : (previous up : ℕ) (s : Option ℕ) → Some seconds ≡ s → (l : ℕ) → load ≡ l → (b : Bool) → crosses_interval (Some seconds) load previous up ≡ b →
      IsTrue b ↔ ((m : ℕ) × IsPeriod s l m × (previous < m) × (m ≤ up))
  crossed-period previous up s at l from b is =
      subst (λ s'. IsTrue b ↔ ((m : ℕ) × IsPeriod s' l m × (previous < m) × (m ≤ up))) at
      (subst (λ l'. IsTrue b ↔ ((m : ℕ) × IsPeriod (Some seconds) l' m × (previous < m) × (m ≤ up))) from
      (subst (λ b'. IsTrue b' ↔ ((m : ℕ) × IsPeriod (Some seconds) load m × (previous < m) × (m ≤ up))) is
      (crossed-at previous up, found-at previous up)))

  -- the end of the period that runs is the next one
  pub next-period : (up r : ℕ) → r ≡ SECOND * seconds * ((up - load) / (SECOND * seconds) + 1) → up - load < r →
      ((k : ℕ) → up - load < SECOND * seconds * k → r ≤ SECOND * seconds * k) →
      (s : Option ℕ) → Some seconds ≡ s → (l : ℕ) → load ≡ l → IsNext (IsPeriod s l) up (Some (load + r))
  next-period up r is later least s at l from =
      subst (λ s'. IsNext (IsPeriod s' l) up (Some (load + r))) at
      (subst (λ l'. IsNext (IsPeriod (Some seconds) l') up (Some (load + r))) from
      (((up - load) / (SECOND * seconds) + 1, omega arith, omega (arith, is)), omega (arith, later), nearest)) where
        nearest : (n : ℕ) → IsPeriod (Some seconds) load n → up < n → load + r ≤ n
        nearest n (k, one, same) after =
            let there = some-periods seconds k some one in
            let near : up - load < SECOND * seconds * k = omega (arith, same, after, there) in
            let le = least k near in
            omega (arith, same, le)
