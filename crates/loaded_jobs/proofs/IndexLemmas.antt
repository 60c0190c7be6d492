-- One more slot is in the index.
use Rattle.std.proofs.Common.{◌≡◌, ◌≢◌, ℕ, ◌+◌, ◌%◌, ◌^◌, ◌==◌, ◌<◌, Bool, true, false, zero, suc, [], ◌∷◌, List, map, length, get_or, Some, refl, sym, ap, ◌∙◌, subst, arith}
use Rattle.std.specs.Prelude.{nat_lt, slice_get, slice_set}
use Rattle.std.proofs.lemmas.Bool.Decides.{nat_tests}
use Rattle.std.proofs.lemmas.List.{get_or-set_same, get_or-set_other}
use Rattle.std.proofs.Math.Nat.{mod-eq_of_lt}
use Rattle.std.specs.List.{list_all}
use Rattle.loaded_jobs.specs.Tables.{Name, IsOnce}
use Rattle.loaded_jobs.specs.JobSlots.{name, is_named}
use Rattle.loaded_jobs.proofs.KnownNumbersLemmas.{all-named}
use Rattle.loaded_jobs.specs.Index.{place_in, raised}
use Rattle.loaded_jobs.specs.declared.job_slot.JobSlot.{JobSlot}
use Rattle.loaded_jobs.proofs.MomentsLemmas.{get-at, apart}
use Rattle.history_model.proofs.BooleanLemmas.{and-both}

module _ (es : List JobSlot) (once : IsOnce (map name es)) (i : ℕ) (e : JobSlot) (within : i < length es) (is : e ≡ get_or es i e) where
  -- what holds of the slots before this place and of the one at it holds of one more
  pub one-more : {P : ℕ → JobSlot → Type 0} → ((k : ℕ) (x : JobSlot) → slice_get es k ≡ Some x → k < i → x.number ≢ e.number → P k x) → P i e →
      (k : ℕ) (x : JobSlot) → slice_get es k ≡ Some x → k < i + 1 → P k x
  one-more {P} before here k x at low = go (k == i) refl where
    go : (b : Bool) → (k == i) ≡ b → P k x
    go true equal =
        let same : k ≡ i = grind (arith, nat_tests, equal) in
        let found : Some e ≡ Some x = sym (get-at es i e within is) ∙ ap (slice_get es) (sym same) ∙ at in
        let job_slot : e ≡ x = cc in
        subst (λ j. P j x) (sym same) (subst (P i) job_slot here)
    go false other =
        let differ : k ≢ i = (λ same. (let clash : ⊥ = grind (arith, nat_tests, other, same) in clash)) in
        before k x at (omega (arith, low, differ)) (apart es k i x e once at (get-at es i e within is) differ)

pub place-same : (places : List ℕ) (number place : ℕ) → number < length places → place_in (slice_set places number place) number ≡ place
place-same places number place within = get_or-set_same places number place 0 within

pub place-other : (places : List ℕ) (number place other : ℕ) → other ≢ number → place_in (slice_set places number place) other ≡ place_in places other
place-other places number place other differ = get_or-set_other places number other place 0 differ

-- a slot's number is named among the slots' names
pub is-named-at : (es : List JobSlot) (k : ℕ) (e : JobSlot) → slice_get es k ≡ Some e → is_named (map name es) e ≡ true
is-named-at es k e at = go (map name es) es k at (all-named es) where
  go : (names : List Name) (xs : List JobSlot) (k : ℕ) → slice_get xs k ≡ Some e → list_all (is_named names) xs ≡ true → is_named names e ≡ true
  go names [] zero at all = cc
  go names [] (suc k) at all = cc
  go names (x ∷ xs) zero at all = let same : x ≡ e = cc in subst (λ y. is_named names y ≡ true) same (and-both (is_named names x) (list_all (is_named names) xs) all).0
  go names (x ∷ xs) (suc k) at all = go names xs k at (and-both (is_named names x) (list_all (is_named names) xs) all).1

-- ---- places that move for a new slot

raised-to : (new k was : ℕ) (b : Bool) → nat_lt was new ≡ b → k < 2 ^ 16 → (k < new → was ≡ k) → (new < k → was + 1 ≡ k) → k ≢ new → raised new was ≡ k
raised-to new k was true low few before behind differ = go (nat_lt k new) refl where
  go : (c : Bool) → nat_lt k new ≡ c → raised new was ≡ k
  go true here = (let inside : k < new = grind (arith, nat_tests, here) in rw low (before inside))
  go false there =
      let high : new < k = grind (arith, nat_tests, there, differ) in
      let next = behind high in
      let clash : ⊥ = grind (arith, nat_tests, low, high, next) in absurd clash
raised-to new k was false far few before behind differ = go (nat_lt k new) refl where
  go : (c : Bool) → nat_lt k new ≡ c → raised new was ≡ k
  go true here =
      let low : k < new = grind (arith, nat_tests, here) in
      let same = before low in
      let clash : ⊥ = grind (arith, nat_tests, far, low, same) in absurd clash
  go false there =
      let high : new < k = grind (arith, nat_tests, there, differ) in
      rw far (ap (λ n. n % 2 ^ 16) (behind high) ∙ mod-eq_of_lt few)

-- a slot that was before the new one keeps its place, and one that was there or after has the next
pub raised-around : (new k was : ℕ) → k ≢ new → k < 2 ^ 16 → (k < new → was ≡ k) → (new < k → was + 1 ≡ k) → raised new was ≡ k
raised-around new k was differ few before behind = raised-to new k was (nat_lt was new) refl few before behind differ
