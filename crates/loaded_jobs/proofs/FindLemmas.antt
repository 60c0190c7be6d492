-- Where a job is, read off what the table keeps beside the slots.
use Rattle.std.proofs.Common.{◌≡◌, ℕ, ◌<◌, ◌≤◌, Bool, true, false, List, length, Some, None, refl, sym, ap, subst, ◌∙◌, arith}
use Rattle.std.specs.Prelude.{slice_get}
use Rattle.std.specs.List.{position}
use Rattle.std.proofs.lemmas.Bool.Decides.{nat_tests}
use Rattle.std.proofs.lemmas.Option.{slice_get_past}
use Rattle.loaded_jobs.specs.JobSlots.{has_number}
use Rattle.loaded_jobs.specs.Index.{place_in, ArePlaced}
use Rattle.loaded_jobs.specs.declared.job_slot.JobSlot.{JobSlot}
use Rattle.loaded_jobs.proofs.FirstLemmas.{where-none, where-first}

-- ---- by number

module _ (es : List JobSlot) (places : List ℕ) (placed : ArePlaced places es) (number : ℕ) where
  -- a job with the number is at the number's place
  stands : (j : ℕ) (y : JobSlot) → slice_get es j ≡ Some y → has_number number y ≡ true → (number < length places) × (place_in places number ≡ j)
  stands j y at is =
      let same : y.number ≡ number = grind (arith, nat_tests, is) in
      subst (λ n. (n < length places) × (place_in places n ≡ j)) same (placed j y at)

  unless : (y : JobSlot) → (has_number number y ≡ true → ⊥) → has_number number y ≡ false
  unless y clash = go (has_number number y) refl
    where
      go : (b : Bool) → has_number number y ≡ b → b ≡ false
      go true is = absurd (clash is)
      go false is = refl

  pub no-place : length places ≤ number → None ≡ position (has_number number) es
  no-place past = where-none (has_number number) es (λ j y at. unless y (λ is. (let within = (stands j y at is).0 in absurd (omega (arith, past, within)))))

  pub no-job_slot : length es ≤ place_in places number → None ≡ position (has_number number) es
  no-job_slot past = where-none (has_number number) es (λ j y at. unless y (λ is. (
      let gone = slice_get_past es j (subst (λ k. length es ≤ k) (stands j y at is).1 past) in
      let clash : None ≡ Some y = sym gone ∙ at in absurd (cc clash))))

  pub other-job_slot : (e : JobSlot) → slice_get es (place_in places number) ≡ Some e → has_number number e ≡ false → None ≡ position (has_number number) es
  other-job_slot e here differ = where-none (has_number number) es (λ j y at. unless y (λ is. (
      let found : Some e ≡ Some y = sym here ∙ ap (slice_get es) (stands j y at is).1 ∙ at in
      let same : e ≡ y = cc in
      let clash : true ≡ false = sym is ∙ ap (has_number number) (sym same) ∙ differ in absurd (cc clash))))

  pub this-job_slot : (e : JobSlot) → slice_get es (place_in places number) ≡ Some e → has_number number e ≡ true → Some (place_in places number) ≡ position (has_number number) es
  this-job_slot e here is = where-first (has_number number) es (place_in places number) e here is (λ j y less at. unless y (λ has. (
      let same = (stands j y at has).1 in absurd (omega (arith, same, less)))))
