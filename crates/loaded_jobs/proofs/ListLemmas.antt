-- Lists of which one part is done and the rest is to do.
use Rattle.std.proofs.Common.{◌≡◌, ℕ, zero, suc, Bool, false, ◌||◌, List, [], ◌∷◌, ◌++◌, map, take, drop, Some, None, length, get_or, ◌<◌, arith, refl, sym, ap, ◌∙◌}
use Rattle.std.proofs.Math.Seq.{take-suc}
use Rattle.std.specs.List.{slice_get, list_any}
use Rattle.std.specs.Prelude.{slice_set}
use Rattle.history_model.proofs.BooleanLemmas.{or-false}

not-below-zero : (i : ℕ) → i < 0 → ⊥
not-below-zero i h = omega (arith, h)

module _ {X : Type 0} where
  -- the item at a place is the first of what is left
  pub drop-Some : (xs : List X) (k : ℕ) (x : X) → Some x ≡ slice_get xs k → drop k xs ≡ x ∷ drop (suc k) xs
  drop-Some [] k x e = cc
  drop-Some (y ∷ ys) zero x e = let same : x ≡ y = cc in ap (λ z. z ∷ ys) (sym same)
  drop-Some (y ∷ ys) (suc k) x e = drop-Some ys k x e

  pub drop-None : (xs : List X) (k : ℕ) → None ≡ slice_get xs k → drop k xs ≡ []
  drop-None [] zero e = refl
  drop-None [] (suc k) e = refl
  drop-None (y ∷ ys) zero e = cc
  drop-None (y ∷ ys) (suc k) e = drop-None ys k e

module _ {X : Type 0} where
  pub at-drop : (xs : List X) (i : ℕ) (x : X) → i < length xs → x ≡ get_or xs i x → drop i xs ≡ x ∷ drop (suc i) xs
  at-drop [] i x within is = absurd (not-below-zero i within)
  at-drop (y ∷ ys) zero x within is = ap (λ z. z ∷ ys) (sym is)
  at-drop (y ∷ ys) (suc i) x within is = at-drop ys i x (omega arith) is

  -- a write at a place leaves what is after it, and is the last of what comes before the next
  pub set-drop : (xs : List X) (i : ℕ) (v : X) → drop (suc i) (slice_set xs i v) ≡ drop (suc i) xs
  set-drop [] zero v = refl
  set-drop [] (suc i) v = refl
  set-drop (y ∷ ys) zero v = refl
  set-drop (y ∷ ys) (suc i) v = set-drop ys i v

  pub set-take : (xs : List X) (i : ℕ) (v : X) → i < length xs → take (suc i) (slice_set xs i v) ≡ take i xs ++ v ∷ []
  set-take [] i v within = absurd (not-below-zero i within)
  set-take (y ∷ ys) zero v within = refl
  set-take (y ∷ ys) (suc i) v within = ap (λ zs. y ∷ zs) (set-take ys i v (omega arith))

  pub at-take : (xs : List X) (i : ℕ) (x : X) → i < length xs → x ≡ get_or xs i x → take (suc i) xs ≡ take i xs ++ x ∷ []
  at-take xs i x within is = take-suc xs i x within ∙ ap (λ y. take i xs ++ y ∷ []) (sym is)

  pub set-map : {Y : Type 0} (f : X → Y) (xs : List X) (i : ℕ) (x v : X) → i < length xs → x ≡ get_or xs i x → f v ≡ f x → map f (slice_set xs i v) ≡ map f xs
  set-map f [] i x v within is same = refl
  set-map f (y ∷ ys) zero x v within is same = ap (λ z. z ∷ map f ys) (same ∙ ap f is)
  set-map f (y ∷ ys) (suc i) x v within is same = ap (λ zs. f y ∷ zs) (set-map f ys i x v (omega arith) is same)

module _ {X : Type 0} where
  drop-tail : (xs : List X) (i : ℕ) → drop (suc i) xs ≡ drop 1 (drop i xs)
  drop-tail [] zero = refl
  drop-tail [] (suc i) = refl
  drop-tail (x ∷ xs) zero = refl
  drop-tail (x ∷ xs) (suc i) = drop-tail xs i

  pub drop-suc : (xs ys : List X) (i : ℕ) → drop i xs ≡ drop i ys → drop (suc i) xs ≡ drop (suc i) ys
  drop-suc xs ys i same = drop-tail xs i ∙ ap (drop 1) same ∙ sym (drop-tail ys i)

-- a slice that was lent whole comes back whole
take-own : {X : Type 0} (xs ys : List X) → take (length xs) (xs ++ ys) ≡ xs
take-own [] ys = refl
take-own (x ∷ xs) ys = ap (λ zs. x ∷ zs) (take-own xs ys)

pub lent-back : {X : Type 0} (xs ys : List X) (n : ℕ) → n ≡ length xs → take n (xs ++ ys) ≡ xs
lent-back xs ys n e = ap (λ m. take m (xs ++ ys)) e ∙ take-own xs ys

pub map-append : {X Y : Type 0} (f : X → Y) (xs ys : List X) → map f (xs ++ ys) ≡ map f xs ++ map f ys
map-append f [] ys = refl
map-append f (x ∷ xs) ys = ap (λ zs. f x ∷ zs) (map-append f xs ys)

pub any-map : {X Y : Type 0} (p : Y → Bool) (f : X → Y) (xs : List X) → list_any p (map f xs) ≡ list_any (λ x. p (f x)) xs
any-map p f [] = refl
any-map p f (x ∷ xs) = ap (λ b. p (f x) || b) (any-map p f xs)

-- if nothing passes, the item at a place does not
pub any-at : {X : Type 0} (p : X → Bool) (xs : List X) (i : ℕ) (x : X) → list_any p xs ≡ false → i < length xs → x ≡ get_or xs i x → p x ≡ false
any-at p [] i x none within is = absurd (not-below-zero i within)
any-at p (y ∷ ys) zero x none within is = ap p is ∙ (or-false (p y) (list_any p ys) none).0
any-at p (y ∷ ys) (suc i) x none within is = any-at p ys i x (or-false (p y) (list_any p ys) none).1 (omega arith) is
