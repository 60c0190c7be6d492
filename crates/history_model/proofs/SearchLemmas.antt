-- How searches of a list, and of a past, follow from one another.
use Rattle.std.proofs.Common.{◌≡◌, ℕ, Bool, true, false, not, ◌||◌, ◌&&◌, cond, List, [], ◌∷◌, ◌++◌, refl, sym, ◌∙◌}
use Rattle.std.specs.List.{filter, list_any}
use Rattle.history_model.specs.Items.{Item, History}
use Rattle.history_model.specs.Clock.{moments}
use Rattle.history_model.proofs.BooleanLemmas.{false-or, or-assoc, or-false, or-false-right, or-second}

-- who fails one of two tests fails one after the other
pub filter-or : {X : Type 0} (q p : X → Bool) (xs : List X) →
    filter (λ c. not (q c || p c)) xs ≡ filter (λ c. not (q c)) (filter (λ c. not (p c)) xs)
filter-or q p [] = refl
filter-or {X} q p (x ∷ xs) = rw (filter-or q p xs) (by_cases (p x) refl) where
  rest : List X
  rest = filter (λ c. not (p c)) xs

  by_cases : (b : Bool) → p x ≡ b → cond (not (q x || b)) (x ∷ filter (λ c. not (q c)) (filter (λ c. not (p c)) xs)) (filter (λ c. not (q c)) (filter (λ c. not (p c)) xs)) ≡ filter (λ c. not (q c)) (cond (not b) (x ∷ filter (λ c. not (p c)) xs) (filter (λ c. not (p c)) xs))
  by_cases true e = elim (q x) as (λ v. cond (not (v || true)) (x ∷ filter (λ c. not (q c)) (filter (λ c. not (p c)) xs)) (filter (λ c. not (q c)) (filter (λ c. not (p c)) xs)) ≡ filter (λ c. not (q c)) (filter (λ c. not (p c)) xs)) [ true ↦ refl | false ↦ refl ]
  by_cases false e = elim (q x) as (λ v. cond (not (v || false)) (x ∷ filter (λ c. not (q c)) (filter (λ c. not (p c)) xs)) (filter (λ c. not (q c)) (filter (λ c. not (p c)) xs)) ≡ cond (not v) (x ∷ filter (λ c. not (q c)) (filter (λ c. not (p c)) xs)) (filter (λ c. not (q c)) (filter (λ c. not (p c)) xs))) [ true ↦ refl | false ↦ refl ]

-- what implies a test that nothing passes passes nothing
pub list_any-implied : (p q : Item → Bool) → ((x : Item) → q x ≡ false → p x ≡ false) → (t : History) → list_any q t ≡ false → list_any p t ≡ false
list_any-implied p q implied [] none = refl
list_any-implied p q implied (x ∷ t) none =
    let both = or-false (q x) (list_any q t) none in
    false-or (p x) (list_any p t) (implied x both.0) (list_any-implied p q implied t both.1)

pub moments-none : (p : Item → Bool) (t : History) → list_any p t ≡ false → moments p t ≡ []
moments-none p [] none = refl
moments-none p (x ∷ t) none =
    let both = or-false (p x) (list_any p t) none in
    rw both.0 (moments-none p t both.1)

three_tests : (l q k : Bool) (a b : List ℕ) → cond (not l && not (q || k)) a b ≡ cond (not l && not k) (cond (not q) a b) b
three_tests true q k a b = refl
three_tests false true true a b = refl
three_tests false true false a b = refl
three_tests false false k a b = refl

filter-cond : (q : ℕ → Bool) (b : Bool) (x : ℕ) (xs : List ℕ) → filter q (cond b (x ∷ xs) xs) ≡ cond b (cond (q x) (x ∷ filter q xs) (filter q xs)) (filter q xs)
filter-cond q true x xs = refl
filter-cond q false x xs = refl

-- one more test takes out those that pass it
pub filter-less : (l q k more : ℕ → Bool) → ((c : ℕ) → more c ≡ (q c || k c)) → (xs : List ℕ) →
    filter (λ c. not (l c) && not (more c)) xs ≡ filter (λ c. not (q c)) (filter (λ c. not (l c) && not (k c)) xs)
filter-less l q k more h [] = refl
filter-less l q k more h (x ∷ xs) =
    let kept : List ℕ = filter (λ c. not (l c) && not (k c)) xs in
    let rest : List ℕ = filter (λ c. not (q c)) kept in
    rw (filter-less l q k more h xs, h x)
    (three_tests (l x) (q x) (k x) (x ∷ rest) rest ∙ sym (filter-cond (λ c. not (q c)) (not (l x) && not (k x)) x kept))

two_tests : (q l k : Bool) (a b : List ℕ) → cond (not (q || l) && not k) a b ≡ cond (not l && not k) (cond (not q) a b) b
two_tests true true k a b = refl
two_tests true false true a b = refl
two_tests true false false a b = refl
two_tests false l k a b = refl

-- the same, of the first of two tests
pub filter-less-first : (q l k : ℕ → Bool) (xs : List ℕ) →
    filter (λ c. not (q c || l c) && not (k c)) xs ≡ filter (λ c. not (q c)) (filter (λ c. not (l c) && not (k c)) xs)
filter-less-first q l k [] = refl
filter-less-first q l k (x ∷ xs) =
    let kept : List ℕ = filter (λ c. not (l c) && not (k c)) xs in
    let rest : List ℕ = filter (λ c. not (q c)) kept in
    rw (filter-less-first q l k xs)
    (two_tests (q x) (l x) (k x) (x ∷ rest) rest ∙ sym (filter-cond (λ c. not (q c)) (not (l x) && not (k x)) x kept))

pub filter-last : (p : ℕ → Bool) (x : ℕ) → p x ≡ true → (xs : List ℕ) → filter p (xs ++ x ∷ []) ≡ filter p xs ++ x ∷ []
filter-last p x passes [] = rw passes refl
filter-last p x passes (y ∷ ys) = rw (filter-last p x passes ys) (by_case (p y)) where
  by_case : (b : Bool) → cond b (y ∷ (filter p ys ++ x ∷ [])) (filter p ys ++ x ∷ []) ≡ cond b (y ∷ filter p ys) (filter p ys) ++ x ∷ []
  by_case true = refl
  by_case false = refl

-- who passes a filter was there
pub list_any-filter : (q p : ℕ → Bool) (xs : List ℕ) → list_any q (filter p xs) ≡ true → list_any q xs ≡ true
list_any-filter q p [] e = e
list_any-filter q p (x ∷ xs) e = go (list_any-filter q p xs) (p x) e where
  go : (list_any q (filter p xs) ≡ true → list_any q xs ≡ true) → (b : Bool) → list_any q (cond b (x ∷ filter p xs) (filter p xs)) ≡ true → (q x || list_any q xs) ≡ true
  go rest true e' = elim (q x) as (λ v. (v || list_any q (filter p xs)) ≡ true → (v || list_any q xs) ≡ true) [ true ↦ λ h. refl | false ↦ λ h. rest h ] e'
  go rest false e' = or-second (q x) (list_any q xs) (rest e')

pub list_any-last : (q : ℕ → Bool) (xs : List ℕ) (x : ℕ) → list_any q (xs ++ x ∷ []) ≡ (list_any q xs || q x)
list_any-last q [] x = or-false-right (q x)
list_any-last q (y ∷ ys) x = rw (list_any-last q ys x) (or-assoc (q y) (list_any q ys) (q x))
