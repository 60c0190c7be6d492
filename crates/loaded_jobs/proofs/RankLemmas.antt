-- The list of triggers is in byte order of their ranks, so that halves find those of one rank.
use Rattle.std.proofs.Common.{◌≡◌, ◌≢◌, ◌⊎◌, inl, inr, ℕ, zero, suc, ◌==◌, ◌+◌, ◌-◌, ◌<◌, ◌≤◌, nat_lt, Bool, true, false, not, ◌||◌, cond, List, [], ◌∷◌, ◌++◌, take, drop, length, get_or, Some, None, refl, sym, ap, subst, ◌∙◌, arith}
use Rattle.std.specs.Prelude.{slice_get}
use Rattle.std.specs.List.{filter, list_any, AllByRecursion}
use Rattle.std.specs.List.Sorted.{IsPartitionPoint, IsPartitionedBy}
use Rattle.std.proofs.lemmas.Bool.Decides.{nat_tests}
use Rattle.std.proofs.lemmas.Option.{slice_get_within, slice_get-get_or, get_or_from_slice_get, slice_get_cases}
use Rattle.history_model.specs.Labels.{is_same, is_before}
use Rattle.loaded_jobs.specs.Triggers.{rank, has_rank, is_below, is_behind, AreOrdered}
use Rattle.loaded_jobs.specs.declared.trigger.Listed.{Listed}
use Rattle.loaded_jobs.proofs.NearestLemmas.{not-before-self}
use Rattle.loaded_jobs.proofs.SettingLemmas.{is-label}
use Rattle.history_model.proofs.BooleanLemmas.{unless-true, not-true}
use Rattle.history_model.proofs.LabelOrderLemmas.{before-trans, after}

-- ---- two texts

pub not-both : (a b : List ℕ) → is_before a b ≡ true → is_before b a ≡ false
not-both a b before = unless-true (is_before b a) (λ back. (let clash : true ≡ false = sym (before-trans a b a before back) ∙ not-before-self a in cc clash))

-- a text that is not after one before the third is before it too
up-to : (a b k : List ℕ) → is_before b a ≡ false → is_before b k ≡ true → is_before a k ≡ true
up-to a b k order before = go (is_same b a) refl
  where
    go : (s : Bool) → is_same b a ≡ s → is_before a k ≡ true
    go true is = let same = is-label b a is in ap (λ l. is_before l k) (sym same) ∙ before
    go false is = before-trans a b k (after b a order is) before

from-on : (a b k : List ℕ) → is_before b a ≡ false → is_before k a ≡ true → is_before k b ≡ true
from-on a b k order before = go (is_same b a) refl
  where
    go : (s : Bool) → is_same b a ≡ s → is_before k b ≡ true
    go true is = let same = is-label b a is in ap (is_before k) same ∙ before
    go false is = before-trans k a b before (after b a order is)

apart-before : (k r : List ℕ) → is_before r k ≡ true → is_same k r ≡ false
apart-before k r before = unless-true (is_same k r) (λ is. (
    let same = is-label k r is in
    let clash : true ≡ false = sym before ∙ ap (λ l. is_before l k) (sym same) ∙ not-before-self k in cc clash))

apart-behind : (k r : List ℕ) → is_before k r ≡ true → is_same k r ≡ false
apart-behind k r behind = unless-true (is_same k r) (λ is. (
    let same = is-label k r is in
    let clash : true ≡ false = sym behind ∙ ap (is_before k) (sym same) ∙ not-before-self k in cc clash))

one-of : (k r : List ℕ) → is_before r k ≡ false → is_before k r ≡ false → is_same k r ≡ true
one-of k r low high = go (is_same k r) refl
  where
    go : (s : Bool) → is_same k r ≡ s → s ≡ true
    go true is = refl
    go false is = let clash : true ≡ false = sym (after k r high is) ∙ low in absurd (cc clash)

-- ---- two of the list

ahead : (P : Listed → Type 0) (xs : List Listed) → AllByRecursion P xs → (j : ℕ) (y : Listed) → slice_get xs j ≡ Some y → P y
ahead P [] all j y at = cc
ahead P (x ∷ xs) all zero y at = let same : x ≡ y = cc in subst P same all.0
ahead P (x ∷ xs) all (suc j) y at = ahead P xs all.1 j y at

pub in-order : (xs : List Listed) → AreOrdered xs → (i j : ℕ) (x y : Listed) → i < j → slice_get xs i ≡ Some x → slice_get xs j ≡ Some y → is_below (rank x.trigger) y ≡ false
in-order [] order i j x y less first second = cc
in-order (z ∷ zs) order zero zero x y less first second = absurd (omega (arith, less))
in-order (z ∷ zs) order zero (suc j) x y less first second =
    let same : z ≡ x = cc in subst (λ w. is_below (rank w.trigger) y ≡ false) same (ahead (λ other. is_below (rank z.trigger) other ≡ false) zs order.0 j y second)
in-order (z ∷ zs) order (suc i) zero x y less first second = absurd (omega (arith, less))
in-order (z ∷ zs) order (suc i) (suc j) x y less first second = in-order zs order.1 i j x y (omega (arith, less)) first second

-- what comes after one that is after a rank is after it too
pub behind-on : (xs : List Listed) → AreOrdered xs → (k : List ℕ) (from : ℕ) (x : Listed) → slice_get xs from ≡ Some x → is_behind k x ≡ true →
    (j : ℕ) (y : Listed) → slice_get xs j ≡ Some y → from ≤ j → is_behind k y ≡ true
behind-on xs order k from x first behind j y second up = go (from == j) refl
  where
    go : (b : Bool) → (from == j) ≡ b → is_behind k y ≡ true
    go true equal =
        let same : from ≡ j = grind (arith, nat_tests, equal) in
        let one : Some x ≡ Some y = sym first ∙ ap (slice_get xs) same ∙ second in
        let it : x ≡ y = cc in
        subst (λ w. is_behind k w ≡ true) it behind
    go false other =
        let differ : from ≢ j = (λ same. (let clash : ⊥ = grind (arith, nat_tests, other, same) in clash)) in
        let less : from < j = omega (arith, up, differ) in
        from-on (rank x.trigger) (rank y.trigger) k (in-order xs order from j x y less first second) behind

-- what is below a rank is not after it
pub not-behind-below : (xs : List Listed) (k : List ℕ) (from : ℕ) → ((j : ℕ) (y : Listed) → slice_get xs j ≡ Some y → j < from → is_below k y ≡ true) →
    (j : ℕ) (y : Listed) → slice_get xs j ≡ Some y → j < from → is_behind k y ≡ false
not-behind-below xs k from low j y at less = not-both (rank y.trigger) k (low j y at less)

-- ---- halves

module _ (xs : List Listed) (order : AreOrdered xs) (k : List ℕ) where
  at-place : (i : ℕ) (d : Listed) → i < length xs → slice_get xs i ≡ Some (get_or xs i d)
  at-place i d within = slice_get-get_or xs i d within

  pub halves-below : IsPartitionedBy (is_below k) xs
  halves-below i j d up within is = go (i == j) refl
    where
      go : (b : Bool) → (i == j) ≡ b → is_below k (get_or xs i d) ≡ true
      go true equal = let same : j ≡ i = grind (arith, nat_tests, equal) in subst (λ n. is_below k (get_or xs n d) ≡ true) same is
      go false other =
          let differ : i ≢ j = (λ same. (let clash : ⊥ = grind (arith, nat_tests, other, same) in clash)) in
          let less : i < j = omega (arith, up, differ) in
          let low : i < length xs = omega (arith, less, within) in
          up-to _ _ k (in-order xs order i j (get_or xs i d) (get_or xs j d) less (at-place i d low) (at-place j d within)) is

  pub halves-not-behind : IsPartitionedBy (λ one. not (is_behind k one)) xs
  halves-not-behind i j d up within is = go (i == j) refl
    where
      go : (b : Bool) → (i == j) ≡ b → not (is_behind k (get_or xs i d)) ≡ true
      go true equal = let same : j ≡ i = grind (arith, nat_tests, equal) in subst (λ n. not (is_behind k (get_or xs n d)) ≡ true) same is
      go false other =
          let differ : i ≢ j = (λ same. (let clash : ⊥ = grind (arith, nat_tests, other, same) in clash)) in
          let less : i < j = omega (arith, up, differ) in
          let low : i < length xs = omega (arith, less, within) in
          ap not (unless-true (is_behind k (get_or xs i d)) (λ behind. (
          let far = from-on _ _ k (in-order xs order i j (get_or xs i d) (get_or xs j d) less (at-place i d low) (at-place j d within)) behind in
          let clash : true ≡ false = sym far ∙ not-true (is_behind k (get_or xs j d)) is in cc clash)))

-- what a place between two halves says of each item
module _ (p : Listed → Bool) (xs : List Listed) (place : ℕ) (point : IsPartitionPoint (λ one. p one ≡ true) (λ one. p one ≡ false) xs place) where
  pub left-half : (j : ℕ) (y : Listed) → slice_get xs j ≡ Some y → j < place → p y ≡ true
  left-half j y at less = subst (λ one. p one ≡ true) (get_or_from_slice_get xs j y y at) (point.0 j y (omega arith) less)

  pub right-half : (j : ℕ) (y : Listed) → slice_get xs j ≡ Some y → place ≤ j → p y ≡ false
  right-half j y at up = let within = slice_get_within xs j y at in subst (λ one. p one ≡ false) (get_or_from_slice_get xs j y y at) (point.1 j y up within)

-- ---- those of one rank

module _ (xs : List Listed) (k : List ℕ) (from to : ℕ) (within : from ≤ length xs)
    (low : (j : ℕ) (y : Listed) → slice_get xs j ≡ Some y → j < from → is_below k y ≡ true)
    (far : (j : ℕ) (y : Listed) → slice_get xs j ≡ Some y → to ≤ j → is_behind k y ≡ true) where
  pub no-gap : from ≤ to
  no-gap = go (nat_lt to from) refl
    where
      go : (b : Bool) → nat_lt to from ≡ b → from ≤ to
      go false is = grind (arith, is)
      go true is = by (slice_get_cases xs to).1
        where
          less : to < from
          less = grind (arith, is)

          by : ((x : Listed) × (to < length xs) × (slice_get xs to ≡ Some x) × (get_or xs to x ≡ x)) ⊎ ((length xs ≤ to) × (slice_get xs to ≡ None)) → from ≤ to
          by (inl found) =
              let clash : true ≡ false = sym (far to found.0 found.2 (omega arith)) ∙ not-both (rank found.0.trigger) k (low to found.0 found.2 less) in absurd (cc clash)
          by (inr past) = let up = past.0 in absurd (omega (arith, up, within, less))

nothing : (n from : ℕ) → take n (drop {A = Listed} from []) ≡ []
nothing zero zero = refl
nothing zero (suc from) = refl
nothing (suc n) zero = refl
nothing (suc n) (suc from) = refl

run : (p : Listed → Bool) (xs : List Listed) (from n : ℕ) → ((j : ℕ) (y : Listed) → slice_get xs j ≡ Some y → j < from → p y ≡ false) →
    ((j : ℕ) (y : Listed) → slice_get xs j ≡ Some y → from ≤ j → j < from + n → p y ≡ true) → ((j : ℕ) (y : Listed) → slice_get xs j ≡ Some y → from + n ≤ j → p y ≡ false) →
    take n (drop from xs) ≡ filter p xs
run p [] from n low mid far = nothing n from
run p (x ∷ xs) zero zero low mid far =
    run p xs zero zero (λ j y at less. absurd (omega (arith, less))) (λ j y at up less. absurd (omega (arith, less))) (λ j y at up. far (suc j) y at (omega arith))
    ∙ ap (λ b. cond b (x ∷ filter p xs) (filter p xs)) (sym (far 0 x refl (omega arith)))
run p (x ∷ xs) zero (suc n) low mid far =
    ap (λ rest. x ∷ rest) (run p xs zero n (λ j y at less. absurd (omega (arith, less))) (λ j y at up less. mid (suc j) y at (omega arith) (omega (arith, less))) (λ j y at up. far (suc j) y at (omega (arith, up))))
    ∙ ap (λ b. cond b (x ∷ filter p xs) (filter p xs)) (sym (mid 0 x refl (omega arith) (omega arith)))
run p (x ∷ xs) (suc from) n low mid far =
    run p xs from n (λ j y at less. low (suc j) y at (omega (arith, less))) (λ j y at up less. mid (suc j) y at (omega (arith, up)) (omega (arith, less)))
    (λ j y at up. far (suc j) y at (omega (arith, up)))
    ∙ ap (λ b. cond b (x ∷ filter p xs) (filter p xs)) (sym (low 0 x refl (omega arith)))

pub run-is : (xs : List Listed) (k : List ℕ) (from to : ℕ) → from ≤ to →
    ((j : ℕ) (y : Listed) → slice_get xs j ≡ Some y → j < from → is_below k y ≡ true) → ((j : ℕ) (y : Listed) → slice_get xs j ≡ Some y → from ≤ j → is_below k y ≡ false) →
    ((j : ℕ) (y : Listed) → slice_get xs j ≡ Some y → j < to → is_behind k y ≡ false) → ((j : ℕ) (y : Listed) → slice_get xs j ≡ Some y → to ≤ j → is_behind k y ≡ true) →
    take (to - from) (drop from xs) ≡ filter (has_rank k) xs
run-is xs k from to up low high near far = run (has_rank k) xs from (to - from)
    (λ j y at less. apart-before k (rank y.trigger) (low j y at less))
    (λ j y at upper less. one-of k (rank y.trigger) (high j y at upper) (near j y at (omega (arith, less, up))))
    (λ j y at upper. apart-behind k (rank y.trigger) (far j y at (omega (arith, upper, up))))

-- ---- one more, and fewer

module _ (P : Listed → Type 0) where
  all-from : (xs : List Listed) → ((j : ℕ) (y : Listed) → slice_get xs j ≡ Some y → P y) → AllByRecursion P xs
  all-from [] each = tt
  all-from (x ∷ xs) each = (each 0 x refl, all-from xs (λ j y at. each (suc j) y at))

  all-put : (x : Listed) (xs : List Listed) (k : ℕ) → P x → AllByRecursion P xs → AllByRecursion P (take k xs ++ x ∷ drop k xs)
  all-put x xs zero own all = (own, all)
  all-put x [] (suc k) own all = (own, tt)
  all-put x (y ∷ ys) (suc k) own all = (all.0, all-put x ys k own all.1)

  all-kept : (p : Listed → Bool) (xs : List Listed) → AllByRecursion P xs → AllByRecursion P (filter p xs)
  all-kept p [] all = tt
  all-kept p (x ∷ xs) all = go (p x) (all-kept p xs all.1)
    where
      go : (b : Bool) → AllByRecursion P (filter p xs) → AllByRecursion P (cond b (x ∷ filter p xs) (filter p xs))
      go true later = (all.0, later)
      go false later = later

pub put-order : (x : Listed) (xs : List Listed) (k : ℕ) → AreOrdered xs →
    ((j : ℕ) (y : Listed) → slice_get xs j ≡ Some y → j < k → is_behind (rank x.trigger) y ≡ false) → ((j : ℕ) (y : Listed) → slice_get xs j ≡ Some y → k ≤ j → is_behind (rank x.trigger) y ≡ true) →
    AreOrdered (take k xs ++ x ∷ drop k xs)
put-order x xs zero order near far =
    (all-from (λ other. is_below (rank x.trigger) other ≡ false) xs (λ j y at. not-both (rank x.trigger) (rank y.trigger) (far j y at (omega arith))), order)
put-order x [] (suc k) order near far = (tt, tt)
put-order x (y ∷ ys) (suc k) order near far = (
  all-put (λ other. is_below (rank y.trigger) other ≡ false) x ys k (near 0 y refl (omega arith)) order.0,
  put-order x ys k order.1 (λ j z at less. near (suc j) z at (omega (arith, less))) (λ j z at up. far (suc j) z at (omega (arith, up))),
)

pub kept-order : (p : Listed → Bool) (xs : List Listed) → AreOrdered xs → AreOrdered (filter p xs)
kept-order p [] order = tt
kept-order p (x ∷ xs) order = go (p x) (kept-order p xs order.1)
  where
    go : (b : Bool) → AreOrdered (filter p xs) → AreOrdered (cond b (x ∷ filter p xs) (filter p xs))
    go true later = (all-kept (λ other. is_below (rank x.trigger) other ≡ false) p xs order.0, later)
    go false later = later

pub put-any : {X : Type 0} (test : X → Bool) (x : X) (xs : List X) (k : ℕ) → list_any test (take k xs ++ x ∷ drop k xs) ≡ (test x || list_any test xs)
put-any test x xs zero = refl
put-any test x [] (suc k) = refl
put-any test x (y ∷ ys) (suc k) = ap (λ b. test y || b) (put-any test x ys k) ∙ turned (test y) (test x) (list_any test ys)
  where
    turned : (a b c : Bool) → (a || (b || c)) ≡ (b || (a || c))
    turned true true c = refl
    turned true false c = refl
    turned false b c = refl
