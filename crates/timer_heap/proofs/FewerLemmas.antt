-- A moment that is taken away is one less.
use Rattle.std.proofs.Common.{◌≡◌, ◌≢◌, ℕ, ◌+◌, ◌<◌, ◌≤◌, ◌==◌, nat_lt, Bool, true, false, List, length, Option, Some, None, is_some, cond, count_by, slice_index_or, slice_set, refl, sym, ap, ◌∙◌, subst, arith}
use Rattle.std.proofs.Math.ListN.{get_or-eq_default}
use Rattle.std.proofs.lemmas.List.{get_or-set_same, get_or-set_other, length-set, ext_get_or}
use Rattle.std.proofs.lemmas.List.Sums.{sum_by-set}
use Rattle.std.proofs.lemmas.Bool.Decides.{nat_tests}
use Rattle.timer_heap.specs.Timers.{Timers, moment_in, timer_count, Updates}

-- a list in which one number becomes none
count-set : (moments : List (Option ℕ)) (job moment : ℕ) → job < length moments → slice_index_or moments job None ≡ Some moment →
    count_by is_some (slice_set moments job None) + 1 ≡ count_by is_some moments
count-set moments job moment inside is =
    let taken : count_by is_some (slice_set moments job None) + 1 ≡ count_by is_some moments + 0 =
    subst (λ (o : Option ℕ). count_by is_some (slice_set moments job None) + cond (is_some o) 1 0 ≡ count_by is_some moments + 0) is
    (sum_by-set (λ (o : Option ℕ). cond (is_some o) 1 0) moments job None None inside) in
    omega (arith, taken)

pub one-less : (old new : Timers) (job moment : ℕ) → Updates old new job None → moment_in old job ≡ Some moment → timer_count new + 1 ≡ timer_count old
one-less old new job moment updates there = ap (λ moments. count_by is_some moments + 1) same ∙ count-set old.moments job moment (inside (nat_lt job (length old.moments)) refl) there where
  inside : (b : Bool) → nat_lt job (length old.moments) ≡ b → job < length old.moments
  inside true is = grind (arith, nat_tests, is)
  inside false is =
      let far : length old.moments ≤ job = grind (arith, nat_tests, is) in
      let clash : None ≡ Some moment = sym (get_or-eq_default old.moments None far) ∙ there in absurd (cc clash)

  at : (other : ℕ) (b : Bool) → (other == job) ≡ b → slice_index_or new.moments other None ≡ slice_index_or (slice_set old.moments job None) other None
  at other true is =
      let same : other ≡ job = grind (arith, nat_tests, is) in
      subst (λ place. slice_index_or new.moments place None ≡ slice_index_or (slice_set old.moments job None) place None) (sym same)
      (updates.changed ∙ sym (get_or-set_same old.moments job None None (inside (nat_lt job (length old.moments)) refl)))
  at other false is =
      let differ : other ≢ job = (λ same. (let clash : ⊥ = grind (arith, nat_tests, is, same) in clash)) in
      updates.others other differ ∙ sym (get_or-set_other old.moments job other None None differ)

  same : new.moments ≡ slice_set old.moments job None
  same = ext_get_or None new.moments (slice_set old.moments job None) (updates.room ∙ sym (length-set old.moments job None)) (λ place below. at place (place == job) refl)
