-- A job that was visited has its next moment in the index, and each other job keeps its own.
use Rattle.std.proofs.Common.{◌≡◌, ◌≢◌, ◌⊎◌, inl, inr, ℕ, zero, suc, ◌+◌, ◌==◌, ◌<◌, ◌≤◌, nat_lt, Bool, true, false, List, [], ◌∷◌, map, length, get_or, Option, Some, is_some, refl, sym, ap, ◌∙◌, subst, arith}
use Rattle.std.specs.Prelude.{slice_set, slice_get}
use Rattle.std.proofs.lemmas.Bool.Decides.{nat_tests}
use Rattle.timer_heap.specs.Timers.{Timers, moment_in, Updates}
use Rattle.loaded_jobs.specs.Tables.{Name, IsOther, IsOnce, definition_of_number}
use Rattle.loaded_jobs.specs.JobSlots.{name}
use Rattle.loaded_jobs.specs.Index.{moment_for, AreAlone}
use Rattle.loaded_jobs.specs.declared.job_slot.JobSlot.{JobSlot}

module _ {X : Type 0} where
  pub set-same : (xs : List X) (i : ℕ) (v : X) → i < length xs → slice_get (slice_set xs i v) i ≡ Some v
  set-same [] i v within = let clash : ⊥ = omega (arith, within) in absurd clash
  set-same (x ∷ xs) zero v within = refl
  set-same (x ∷ xs) (suc i) v within = set-same xs i v (omega (arith, within))

  pub set-other : (xs : List X) (i k : ℕ) (v : X) → k ≢ i → slice_get (slice_set xs i v) k ≡ slice_get xs k
  set-other [] zero zero v differ = refl
  set-other [] zero (suc k) v differ = refl
  set-other [] (suc i) zero v differ = refl
  set-other [] (suc i) (suc k) v differ = refl
  set-other (x ∷ xs) zero zero v differ = absurd (differ refl)
  set-other (x ∷ xs) zero (suc k) v differ = refl
  set-other (x ∷ xs) (suc i) zero v differ = refl
  set-other (x ∷ xs) (suc i) (suc k) v differ = set-other xs i k v (λ same. differ (ap suc same))

  pub get-at : (xs : List X) (i : ℕ) (x : X) → i < length xs → x ≡ get_or xs i x → slice_get xs i ≡ Some x
  get-at [] i x within is = let clash : ⊥ = omega (arith, within) in absurd clash
  get-at (y ∷ ys) zero x within is = ap Some (sym is)
  get-at (y ∷ ys) (suc i) x within is = get-at ys i x (omega (arith, within)) is

-- ---- two places have two numbers

number-other : (n : Name) (es : List JobSlot) (k : ℕ) (e : JobSlot) → IsOther n (map name es) → slice_get es k ≡ Some e → n.number ≢ e.number
number-other n [] zero e other at = cc
number-other n [] (suc k) e other at = cc
number-other n (x ∷ xs) zero e other at =
    let same : x ≡ e = cc in λ equal. (let equals : n.number ≡ x.number = equal ∙ ap (λ y. y.number) (sym same) in let differ = other.0 in let clash : ⊥ = grind (arith, nat_tests, differ, equals) in clash)
number-other n (x ∷ xs) (suc k) e other at = number-other n xs k e other.2 at

pub apart : (es : List JobSlot) (k p : ℕ) (e other : JobSlot) → IsOnce (map name es) → slice_get es k ≡ Some e → slice_get es p ≡ Some other → k ≢ p → e.number ≢ other.number
apart [] zero p e other once at here differ = cc
apart [] (suc k) p e other once at here differ = cc
apart (x ∷ xs) zero zero e other once at here differ = absurd (differ refl)
apart (x ∷ xs) zero (suc p) e other once at here differ =
    let same : x ≡ e = cc in λ equal. number-other (name x) xs p other once.0 here (ap (λ y. y.number) same ∙ equal)
apart (x ∷ xs) (suc k) zero e other once at here differ =
    let same : x ≡ other = cc in λ equal. number-other (name x) xs k e once.0 at (ap (λ y. y.number) same ∙ sym equal)
apart (x ∷ xs) (suc k) (suc p) e other once at here differ = apart xs k p e other once.1 at here (λ same. differ (ap suc same))

-- ---- the index after a visit

-- the jobs that were passed, and those that are spared, have their moments
abbrev pub AreTimedTo : Timers → ℕ → (ℕ → Bool) → ℕ → List JobSlot → Type 0
AreTimedTo timers up spared front es =
    (k : ℕ) (e : JobSlot) → slice_get es k ≡ Some e → (k < front) ⊎ (spared k ≡ true) → moment_in timers e.number ≡ moment_for e up

pub retimed : (es : List JobSlot) (p : ℕ) (old new : JobSlot) (timers later : Timers) (up front : ℕ) (spared : ℕ → Bool) → IsOnce (map name es) → p < length es → old ≡ get_or es p old → name new ≡ name old →
    Updates timers later new.number (moment_for new up) → ((k : ℕ) → front ≤ k → k < p → spared k ≡ true) →
    AreTimedTo timers up spared front es → AreTimedTo later up spared (p + 1) (slice_set es p new)
retimed es p old new timers later up front spared once within is named updates between timed k e at reached = go (k == p) refl where
  passed : k ≢ p → (k < p + 1) ⊎ (spared k ≡ true) → (k < front) ⊎ (spared k ≡ true)
  passed differ (inr spares) = inr spares
  passed differ (inl low) = pick (nat_lt k front) refl where
    pick : (b : Bool) → nat_lt k front ≡ b → (k < front) ⊎ (spared k ≡ true)
    pick true less = inl (grind (arith, nat_tests, less))
    pick false more = let above : front ≤ k = grind (arith, nat_tests, more) in inr (between k above (omega (arith, low, differ)))

  go : (b : Bool) → (k == p) ≡ b → moment_in later e.number ≡ moment_for e up
  go true equal =
      let same : k ≡ p = grind (arith, nat_tests, equal) in
      let there : Some new ≡ Some e = sym (set-same es p new within) ∙ ap (slice_get (slice_set es p new)) (sym same) ∙ at in
      let job_slot : new ≡ e = cc in
      subst (λ x. moment_in later x.number ≡ moment_for x up) job_slot updates.changed
  go false other =
      let differ : k ≢ p = (λ same. (let clash : ⊥ = grind (arith, nat_tests, other, same) in clash)) in
      let here : slice_get es k ≡ Some e = sym (set-other es p k new differ) ∙ at in
      let number : e.number ≢ new.number = λ equal. apart es k p e old once here (get-at es p old within is) differ (equal ∙ ap (λ n. n.number) named) in
      updates.others e.number number ∙ timed k e here (passed differ reached)

pub alone-after : (timers later : Timers) (names : List Name) (number : ℕ) (moment : Option ℕ) → Updates timers later number moment → is_some (definition_of_number names number) ≡ true →
    AreAlone timers names → AreAlone later names
alone-after timers later names number moment updates named alone k m there = go (k == number) refl where
  go : (b : Bool) → (k == number) ≡ b → is_some (definition_of_number names k) ≡ true
  go true equal = let same : k ≡ number = grind (arith, nat_tests, equal) in subst (λ n. is_some (definition_of_number names n) ≡ true) (sym same) named
  go false other = alone k m (sym (updates.others k (λ same. (let clash : ⊥ = grind (arith, nat_tests, other, same) in clash))) ∙ there)
