-- The next moment is the least of all moments after the present reading.
use Rattle.std.proofs.Common.{◌≡◌, ◌⊎◌, inl, inr, ℕ, ◌+◌, ◌-◌, ◌*◌, ◌/◌, ◌==◌, ◌<◌, ◌≤◌, Bool, true, false, ◌||◌, ◌&&◌, Option, Some, None, List, [], ◌∷◌, ◌++◌, refl, sym, ◌∙◌, arith, nat_lt}
use Rattle.std.specs.Prelude.{min}
use Rattle.std.proofs.lemmas.Bool.{eqb-true}
use Rattle.std.proofs.lemmas.Bool.Decides.{nat_tests}
use Rattle.std.proofs.Math.Nat.{div-lt_iff_lt-mul, lt-div-mul-add, mul-le-mul_left, mul-le-mul_right}
use Rattle.std.specs.Option.{ForSome}
use Rattle.std.specs.List.{filter, list_any}
use Rattle.history_model.specs.Items.{History}
use Rattle.history_model.specs.Clock.{now, load_of, definition_of, periods}
use Rattle.history_model.specs.Moments.{waits, next_period, least, next_moment, IsPeriod, IsMoment}
use Rattle.history_model.proofs.BooleanLemmas.{and-both, or-either, or-only, or-second, true-and}
use Rattle.history_model.proofs.LawfulLemmas.{eqb-self}
use Rattle.history_model.proofs.LiftedLemmas.{any-filter}
use Rattle.history_model.specs.declared.TheConstants.{SECOND}

-- the number is in the list
abbrev is_in : ℕ → List ℕ → Bool
is_in k ms = list_any (λ m. m == k) ms

-- it is in the list, and none is less
abbrev IsLeast : List ℕ → ℕ → Type 0
IsLeast ms m = (is_in m ms ≡ true) × ((k : ℕ) → is_in k ms ≡ true → m ≤ k)

min-in : (m k : ℕ) → (min m k ≡ m) ⊎ (min m k ≡ k)
min-in m k = go (nat_lt m k) refl where
  go : (b : Bool) → nat_lt m k ≡ b → (min m k ≡ m) ⊎ (min m k ≡ k)
  go true e = inl (grind (arith, nat_tests, e))
  go false e = inr (grind (arith, nat_tests, e))

least-is : (m : ℕ) (ms : List ℕ) (x : ℕ) → least (m ∷ ms) ≡ Some x → IsLeast (m ∷ ms) x
least-is m [] x e =
    let same : m ≡ x = cc in
    (rw (← same, eqb-self m) refl, λ k there. let found : m ≡ k = eqb-true m k (or-only (m == k) there) in omega (arith, same, found))
least-is m (n ∷ ms) x e =
    let rest = least-is (min m n) ms x e in (
      here (or-either (min m n == x) (is_in x ms) rest.0),
      λ k there. below k (or-either (m == k) ((n == k) || is_in k ms) there) rest.1,
    ) where
      here : ((min m n == x) ≡ true) ⊎ (is_in x ms ≡ true) → is_in x (m ∷ n ∷ ms) ≡ true
      here (inr later) = or-second (m == x) ((n == x) || is_in x ms) (or-second (n == x) (is_in x ms) later)
      here (inl now_here) = pick (min-in m n) (eqb-true (min m n) x now_here) where
        pick : (min m n ≡ m) ⊎ (min m n ≡ n) → min m n ≡ x → is_in x (m ∷ n ∷ ms) ≡ true
        pick (inl is_m) same = let equal : m ≡ x = omega (arith, is_m, same) in rw (equal, eqb-self x) refl
        pick (inr is_n) same = let equal : n ≡ x = omega (arith, is_n, same) in or-second (m == x) ((n == x) || is_in x ms) (rw (equal, eqb-self x) refl)

      from : (k : ℕ) → min m n ≤ k → ((j : ℕ) → is_in j (min m n ∷ ms) ≡ true → x ≤ j) → x ≤ k
      from k above all = let lowest : x ≤ min m n = all (min m n) (rw (eqb-self (min m n)) refl) in omega (arith, lowest, above)

      below : (k : ℕ) → ((m == k) ≡ true) ⊎ (((n == k) || is_in k ms) ≡ true) → ((j : ℕ) → is_in j (min m n ∷ ms) ≡ true → x ≤ j) → x ≤ k
      below k (inl is_m) all = let same : m ≡ k = eqb-true m k is_m in from k (omega (arith, same)) all
      below k (inr later) all = last_two (or-either (n == k) (is_in k ms) later) where
        last_two : ((n == k) ≡ true) ⊎ (is_in k ms ≡ true) → x ≤ k
        last_two (inl is_n) = let same : n ≡ k = eqb-true n k is_n in from k (omega (arith, same)) all
        last_two (inr deeper) = all k (or-second (min m n == k) (is_in k ms) deeper)

least-None : (ms : List ℕ) → least ms ≡ None → ms ≡ []
least-None [] e = refl
least-None (m ∷ ms) e = cc

in-++ : (k : ℕ) (xs ys : List ℕ) → is_in k (xs ++ ys) ≡ (is_in k xs || is_in k ys)
in-++ k [] ys = refl
in-++ k (x ∷ xs) ys = rw (in-++ k xs ys) (go (x == k)) where
  go : (b : Bool) → (b || (is_in k xs || is_in k ys)) ≡ ((b || is_in k xs) || is_in k ys)
  go true = refl
  go false = refl

-- the interval's next moment
module _ (seconds load up : ℕ) (positive : 0 < seconds) where
  some : 0 < SECOND * seconds
  some = omega arith

  next-later : up < load + SECOND * seconds * (periods seconds (up - load) + 1)
  next-later = let less : up - load < (up - load) / (SECOND * seconds) * (SECOND * seconds) + SECOND * seconds = lt-div-mul-add some in omega (arith, less)

  next-least : (k : ℕ) → 1 ≤ k → up < load + SECOND * k * seconds → load + SECOND * seconds * (periods seconds (up - load) + 1) ≤ load + SECOND * k * seconds
  next-least k one above =
      let period : 1 * (SECOND * seconds) ≤ k * (SECOND * seconds) = mul-le-mul_right (SECOND * seconds) one in
      let inside : up - load < k * (SECOND * seconds) = omega (arith, above, period, some) in
      let less : (up - load) / (SECOND * seconds) < k = (div-lt_iff_lt-mul some).1 inside in
      let more : SECOND * seconds * ((up - load) / (SECOND * seconds) + 1) ≤ SECOND * seconds * k = mul-le-mul_left (SECOND * seconds) (omega (arith, less)) in
      omega (arith, more)

-- ---- the moments of the interval

period-in : (o : Option ℕ) (load up m : ℕ) → ForSome o (λ seconds. 0 < seconds) → is_in m (next_period o load up) ≡ true → (up < m) × IsPeriod o load m
period-in None load up m positive there = cc
period-in (Some seconds) load up m positive there =
    let same : load + SECOND * seconds * (periods seconds (up - load) + 1) ≡ m = eqb-true (load + SECOND * seconds * (periods seconds (up - load) + 1)) m (or-only (load + SECOND * seconds * (periods seconds (up - load) + 1) == m) there) in
    let later = next-later seconds load up (positive seconds refl) in
    (omega (arith, later, same), (periods seconds (up - load) + 1, omega arith, omega (arith, same)))

-- a period that is still to come is not before the next
period-below : (o : Option ℕ) (load up other m : ℕ) → ForSome o (λ seconds. 0 < seconds) → IsPeriod o load other → up < other →
    ((k : ℕ) → is_in k (next_period o load up) ≡ true → m ≤ k) → m ≤ other
period-below None load up other m positive period above all = absurd period
period-below (Some seconds) load up other m positive (k, one, same) above all =
    let nearer = next-least seconds load up (positive seconds refl) k one (omega (arith, above, same)) in
    let found : m ≤ load + SECOND * seconds * (periods seconds (up - load) + 1) =
    all (load + SECOND * seconds * (periods seconds (up - load) + 1)) (rw (eqb-self (load + SECOND * seconds * (periods seconds (up - load) + 1))) refl) in
    omega (arith, found, nearer, same)

-- if no period is to come there is no interval
period-none : (o : Option ℕ) (load up other : ℕ) → next_period o load up ≡ [] → IsPeriod o load other → ⊥
period-none None load up other none period = period
period-none (Some seconds) load up other none period = cc

-- ---- all moments

module _ (t : History) (positive : ForSome (definition_of t).start_interval (λ seconds. 0 < seconds)) where
  in-waits : (k : ℕ) → is_in k (filter (nat_lt (now t).up) (waits t)) ≡ (is_in k (waits t) && nat_lt (now t).up k)
  in-waits k = any-filter (nat_lt (now t).up) k (waits t)

  left : (k : ℕ) → is_in k (next_period (definition_of t).start_interval (load_of t).at.up (now t).up) ≡ true →
      is_in k (next_period (definition_of t).start_interval (load_of t).at.up (now t).up ++ filter (nat_lt (now t).up) (waits t)) ≡ true
  left k there = rw (in-++ k (next_period (definition_of t).start_interval (load_of t).at.up (now t).up) (filter (nat_lt (now t).up) (waits t)), there) refl

  right : (k : ℕ) → is_in k (waits t) ≡ true → (now t).up < k →
      is_in k (next_period (definition_of t).start_interval (load_of t).at.up (now t).up ++ filter (nat_lt (now t).up) (waits t)) ≡ true
  right k there above =
      rw (in-++ k (next_period (definition_of t).start_interval (load_of t).at.up (now t).up) (filter (nat_lt (now t).up) (waits t)))
      (or-second (is_in k (next_period (definition_of t).start_interval (load_of t).at.up (now t).up)) (is_in k (filter (nat_lt (now t).up) (waits t)))
      (in-waits k ∙ true-and (is_in k (waits t)) (nat_lt (now t).up k) there (grind (arith, nat_tests, above))))

  whole : (m : ℕ) → next_moment t ≡ Some m → IsLeast (next_period (definition_of t).start_interval (load_of t).at.up (now t).up ++ filter (nat_lt (now t).up) (waits t)) m
  whole m e = go (next_period (definition_of t).start_interval (load_of t).at.up (now t).up ++ filter (nat_lt (now t).up) (waits t)) e where
    go : (ms : List ℕ) → least ms ≡ Some m → IsLeast ms m
    go [] h = cc
    go (k ∷ ms) h = least-is k ms m h

  pub is-one : (m : ℕ) → next_moment t ≡ Some m → ((now t).up < m) × IsMoment t m
  is-one m e =
      go (or-either (is_in m (next_period (definition_of t).start_interval (load_of t).at.up (now t).up)) (is_in m (filter (nat_lt (now t).up) (waits t)))
      (sym (in-++ m (next_period (definition_of t).start_interval (load_of t).at.up (now t).up) (filter (nat_lt (now t).up) (waits t))) ∙ (whole m e).0)) where
        go : (is_in m (next_period (definition_of t).start_interval (load_of t).at.up (now t).up) ≡ true) ⊎ (is_in m (filter (nat_lt (now t).up) (waits t)) ≡ true) → ((now t).up < m) × IsMoment t m
        go (inl there) = let fact = period-in (definition_of t).start_interval (load_of t).at.up (now t).up m positive there in (fact.0, inl fact.1)
        go (inr there) =
            let both = and-both (is_in m (waits t)) (nat_lt (now t).up m) (sym (in-waits m) ∙ there) in
            let later : nat_lt (now t).up m ≡ true = both.1 in
            (grind (arith, nat_tests, later), inr both.0)

  pub is-least : (m other : ℕ) → next_moment t ≡ Some m → IsMoment t other → (now t).up < other → m ≤ other
  is-least m other e (inl period) above =
      period-below (definition_of t).start_interval (load_of t).at.up (now t).up other m positive period above (λ k there. (whole m e).1 k (left k there))
  is-least m other e (inr there) above = (whole m e).1 other (right other there above)

  pub is-none : (other : ℕ) → next_moment t ≡ None → IsMoment t other → other ≤ (now t).up
  is-none other e moment = go (nat_lt (now t).up other) refl moment where
    empty : next_period (definition_of t).start_interval (load_of t).at.up (now t).up ++ filter (nat_lt (now t).up) (waits t) ≡ []
    empty = least-None (next_period (definition_of t).start_interval (load_of t).at.up (now t).up ++ filter (nat_lt (now t).up) (waits t)) e

    front : (xs ys : List ℕ) → xs ++ ys ≡ [] → xs ≡ []
    front [] ys h = refl
    front (x ∷ xs) ys h = cc

    go : (b : Bool) → nat_lt (now t).up other ≡ b → IsMoment t other → other ≤ (now t).up
    go false is moment = grind (arith, nat_tests, is)
    go true is (inl period) =
        absurd (period-none (definition_of t).start_interval (load_of t).at.up (now t).up other
        (front (next_period (definition_of t).start_interval (load_of t).at.up (now t).up) (filter (nat_lt (now t).up) (waits t)) empty) period)
    go true is (inr there) =
        let found : is_in other (next_period (definition_of t).start_interval (load_of t).at.up (now t).up ++ filter (nat_lt (now t).up) (waits t)) ≡ true =
        right other there (grind (arith, nat_tests, is)) in
        let lost : is_in other (next_period (definition_of t).start_interval (load_of t).at.up (now t).up ++ filter (nat_lt (now t).up) (waits t)) ≡ false = rw empty refl in
        cc
