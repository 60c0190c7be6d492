-- A clock reading that reaches no moment of a job leaves its facts, its order and its next moment as they were. All is said of facts, so no
-- past is named: an index that keeps the next moment by the facts needs no past either.
use Rattle.std.proofs.Common.{◌≡◌, ℕ, ◌+◌, ◌-◌, ◌*◌, ◌/◌, ◌^◌, ◌<◌, ◌≤◌, Bool, true, false, not, ◌||◌, ◌&&◌, cond, Option, Some, None, is_some, min, nat_lt, nat_le, refl, sym, ap, ◌∙◌, subst, arith}
use Rattle.std.proofs.lemmas.Bool.Decides.{nat_tests}
use Rattle.std.proofs.Math.Nat.{div-lt_iff_lt-mul, le-div_iff_mul-le, div-mul-le_self}
use Rattle.history_model.specs.Clock.{periods, crosses_interval}
use Rattle.history_model.specs.declared.Act.TheVariants.{Spawn, Kill, Term}
use Rattle.history_model.specs.Search.{first}
use Rattle.history_model.specs.Due.{is_over}
use Rattle.history_model.specs.Facts.{Facts}
use Rattle.history_model.specs.DueByFacts.{is_newest_within, is_throttled_by, is_wanted_by, may_kill_by, may_term_by, due_beside_by, due_by}
use Rattle.history_model.specs.NextMomentByFacts.{sooner, coming, coming_after, coming_period, coming_end, next_by}
use Rattle.history_model.specs.LaterMoments.{IsLater}
use Rattle.history_model.proofs.UntouchedLemmas.{kill-shape}
use Rattle.history_model.specs.declared.TheConstants.{SECOND}
use Rattle.history_model.specs.declared.Child.{Child}

-- both of two are later if the sooner is
both : (at : ℕ) (a b : Option ℕ) → IsLater at (sooner a b) → IsLater at a × IsLater at b
both at None b later = (tt, later)
both at (Some m) None later = (later, tt)
both at (Some m) (Some n) later = let least : at < min m n = later in (omega (arith, least), omega (arith, least))

module _ (up at : ℕ) (order : up ≤ at) where
  coming-same : (m : ℕ) → IsLater at (coming up m) → nat_lt at m ≡ nat_lt up m
  coming-same m later = go (nat_lt up m) refl later where
    go : (b : Bool) → nat_lt up m ≡ b → IsLater at (cond b (Some m) None) → nat_lt at m ≡ b
    go true is later = grind (arith, later)
    go false is later = grind (arith, nat_tests, is, order)

  after-same : (wait : ℕ) (o : Option ℕ) → IsLater at (coming_after up wait o) → coming_after at wait o ≡ coming_after up wait o
  after-same wait None later = refl
  after-same wait (Some m) later = ap (λ b. cond b (Some (m + wait)) None) (coming-same (m + wait) later)

  within-same : (wait : ℕ) (o : Option ℕ) → IsLater at (coming_after up wait o) → is_newest_within wait at o ≡ is_newest_within wait up o
  within-same wait None later = refl
  within-same wait (Some m) later = coming-same (m + wait) later

  over-from : (m : ℕ) → nat_lt at m ≡ nat_lt up m → nat_le m at ≡ nat_le m up
  over-from m same = go (nat_lt at m) (nat_lt up m) refl refl same where
    go : (x y : Bool) → nat_lt at m ≡ x → nat_lt up m ≡ y → x ≡ y → nat_le m at ≡ nat_le m up
    go true true ex ey e = let a : nat_le m at ≡ false = grind (arith, nat_tests, ex) in let b : nat_le m up ≡ false = grind (arith, nat_tests, ey) in a ∙ sym b
    go false false ex ey e = let a : nat_le m at ≡ true = grind (arith, nat_tests, ex) in let b : nat_le m up ≡ true = grind (arith, nat_tests, ey) in a ∙ sym b
    go true false ex ey e = cc
    go false true ex ey e = cc

  over-same : (wait : ℕ) (o : Option ℕ) → IsLater at (coming_after up wait o) → is_over wait at o ≡ is_over wait up o
  over-same wait None later = refl
  over-same wait (Some m) later = over-from (m + wait) (coming-same (m + wait) later)

  guarded : (b : Bool) (a : Option ℕ) (x y : Bool) → IsLater at (cond b a None) → (IsLater at a → x ≡ y) → (b && x) ≡ (b && y)
  guarded true a x y later same = same later
  guarded false a x y later same = refl

  -- ---- the order

  throttled : (f : Facts) → IsLater at (coming_after up (SECOND * f.definition.throttle_interval) f.spawn_ordered) → IsLater at (coming_after up SECOND f.spawn_refused) →
      is_throttled_by f at ≡ is_throttled_by f up
  throttled f a b = λ i. within-same (SECOND * f.definition.throttle_interval) f.spawn_ordered a i || within-same SECOND f.spawn_refused b i

  kills : (f : Facts) → IsLater at (coming_end f up) → may_kill_by f at ≡ may_kill_by f up
  kills f later =
      let parts = both at (cond (nat_lt 0 f.definition.exit_timeout) (coming_after up (SECOND * f.definition.exit_timeout) f.term_ordered) None)
      (sooner (coming_after up SECOND f.term_refused) (coming_after up SECOND f.kill_refused)) later in
      let refused = both at (coming_after up SECOND f.term_refused) (coming_after up SECOND f.kill_refused) parts.1 in
      let out = guarded (nat_lt 0 f.definition.exit_timeout) (coming_after up (SECOND * f.definition.exit_timeout) f.term_ordered)
      (is_over (SECOND * f.definition.exit_timeout) at f.term_ordered) (is_over (SECOND * f.definition.exit_timeout) up f.term_ordered) parts.0 (over-same (SECOND * f.definition.exit_timeout) f.term_ordered) in
      kill-shape f.is_struck f.is_stopping _ _ _ _ _ out (λ i. not f.is_kill_done && not (within-same SECOND f.kill_refused refused.1 i))

  terms : (f : Facts) → IsLater at (coming_end f up) → may_term_by f at ≡ may_term_by f up
  terms f later =
      let parts = both at (cond (nat_lt 0 f.definition.exit_timeout) (coming_after up (SECOND * f.definition.exit_timeout) f.term_ordered) None)
      (sooner (coming_after up SECOND f.term_refused) (coming_after up SECOND f.kill_refused)) later in
      let refused = both at (coming_after up SECOND f.term_refused) (coming_after up SECOND f.kill_refused) parts.1 in
      λ i. not f.is_struck && f.is_stopping && not f.is_kill_done && (not f.is_term_done && not (within-same SECOND f.term_refused refused.0 i))

  record Parts (f : Facts) : Type 0 where
    period : IsLater at (coming_period f.definition.start_interval f.load_up up)
    spawn : IsLater at (coming_after up (SECOND * f.definition.throttle_interval) f.spawn_ordered)
    refusal : IsLater at (coming_after up SECOND f.spawn_refused)
    end : IsLater at (cond (is_some f.living_child) (coming_end f up) None)

  parts-of : (f : Facts) → IsLater at (next_by f up) → Parts f
  parts-of f later =
      let outer = both at (coming_period f.definition.start_interval f.load_up up) _ later in
      let inner = both at (sooner (coming_after up (SECOND * f.definition.throttle_interval) f.spawn_ordered) (coming_after up SECOND f.spawn_refused)) _ outer.1 in
      let spawn = both at (coming_after up (SECOND * f.definition.throttle_interval) f.spawn_ordered) (coming_after up SECOND f.spawn_refused) inner.0 in
      record { period = outer.0; spawn = spawn.0; refusal = spawn.1; end = inner.1 }

  pub throttled-same : (f : Facts) → IsLater at (next_by f up) → is_throttled_by f at ≡ is_throttled_by f up
  throttled-same f later = let parts = parts-of f later in throttled f parts.spawn parts.refusal

  beside : (f : Facts) (c : Option Child) → c ≡ f.living_child → Parts f → due_beside_by c f at ≡ due_beside_by c f up
  beside f None is parts = λ i. cond (not f.is_removing && is_wanted_by f && not (throttled f parts.spawn parts.refusal i)
      && not (f.definition.launch_only_once && f.spawned_before) && nat_lt f.run_count (2 ^ 63)) (Some (Spawn (f.run_count + 1) (first f.queue))) None
  beside f (Some c) is parts =
      let end : IsLater at (coming_end f up) = subst (λ o. IsLater at (cond (is_some o) (coming_end f up) None)) (sym is) parts.end in
      λ i. cond (kills f end i) (Some (Kill c.run)) (cond (terms f end i) (Some (Term c.run)) None)

  pub due-same : (f : Facts) → IsLater at (next_by f up) → due_by f at ≡ due_by f up
  due-same f later = ap (λ o. cond (is_some f.awaited_act) None o) (beside f f.living_child refl (parts-of f later))

  -- ---- the interval

  periods-same : (seconds load : ℕ) → at < load + SECOND * seconds * (periods seconds (up - load) + 1) → periods seconds (at - load) ≡ periods seconds (up - load)
  periods-same seconds load below = go (nat_lt 0 seconds) refl where
    go : (b : Bool) → nat_lt 0 seconds ≡ b → (at - load) / (SECOND * seconds) ≡ (up - load) / (SECOND * seconds)
    go true some =
        let positive : 0 < seconds = grind (arith, nat_tests, some) in
        let period : 0 < SECOND * seconds = omega (arith, positive) in
        let inside : at - load < ((up - load) / (SECOND * seconds) + 1) * (SECOND * seconds) = omega (arith, below, period) in
        let less : (at - load) / (SECOND * seconds) < (up - load) / (SECOND * seconds) + 1 = (div-lt_iff_lt-mul period).1 inside in
        let whole : (up - load) / (SECOND * seconds) * (SECOND * seconds) ≤ up - load = div-mul-le_self (up - load) (SECOND * seconds) in
        let reach : (up - load) / (SECOND * seconds) * (SECOND * seconds) ≤ at - load = omega (arith, whole, order) in
        let more : (up - load) / (SECOND * seconds) ≤ (at - load) / (SECOND * seconds) = (le-div_iff_mul-le period).1 reach in
        omega (arith, less, more)
    go false none =
        let zero_seconds : seconds ≡ 0 = grind (arith, nat_tests, none) in
        let early : at < load = omega (arith, below, zero_seconds) in
        let same : at - load ≡ up - load = omega (arith, early, order) in
        ap (λ n. n / (SECOND * seconds)) same

  period-same : (o : Option ℕ) (load : ℕ) → IsLater at (coming_period o load up) → coming_period o load at ≡ coming_period o load up
  period-same None load later = refl
  period-same (Some seconds) load later = ap (λ k. Some (load + SECOND * seconds * (k + 1))) (periods-same seconds load later)

  uncrossed : (o : Option ℕ) (load : ℕ) → IsLater at (coming_period o load up) → crosses_interval o load up at ≡ false
  uncrossed None load later = refl
  uncrossed (Some seconds) load later = let same = periods-same seconds load later in not-below (periods seconds (up - load)) (periods seconds (at - load)) same where
    not-below : (m n : ℕ) → n ≡ m → nat_lt m n ≡ false
    not-below m n same = grind (arith, nat_tests, same)

  pub crosses-none : (f : Facts) → IsLater at (next_by f up) → crosses_interval f.definition.start_interval f.load_up up at ≡ false
  crosses-none f later = uncrossed f.definition.start_interval f.load_up (parts-of f later).period

  crossed-alike : (o : Option ℕ) (load : ℕ) → IsLater at (coming_period o load up) → (later : ℕ) → crosses_interval o load at later ≡ crosses_interval o load up later
  crossed-alike None load far later = refl
  crossed-alike (Some seconds) load far later = ap (λ k. nat_lt k (periods seconds (later - load))) (periods-same seconds load far)

  -- what a later reading crosses from here it crosses from there
  pub crosses-alike : (f : Facts) → IsLater at (next_by f up) → (later : ℕ) →
      crosses_interval f.definition.start_interval f.load_up at later ≡ crosses_interval f.definition.start_interval f.load_up up later
  crosses-alike f far = crossed-alike f.definition.start_interval f.load_up (parts-of f far).period

  -- ---- the next moment

  end-same : (f : Facts) → IsLater at (coming_end f up) → coming_end f at ≡ coming_end f up
  end-same f later =
      let parts = both at (cond (nat_lt 0 f.definition.exit_timeout) (coming_after up (SECOND * f.definition.exit_timeout) f.term_ordered) None)
      (sooner (coming_after up SECOND f.term_refused) (coming_after up SECOND f.kill_refused)) later in
      let refused = both at (coming_after up SECOND f.term_refused) (coming_after up SECOND f.kill_refused) parts.1 in
      λ i. sooner (out (nat_lt 0 f.definition.exit_timeout) parts.0 i) (sooner (after-same SECOND f.term_refused refused.0 i) (after-same SECOND f.kill_refused refused.1 i)) where
        out : (b : Bool) → IsLater at (cond b (coming_after up (SECOND * f.definition.exit_timeout) f.term_ordered) None) →
            cond b (coming_after at (SECOND * f.definition.exit_timeout) f.term_ordered) None ≡ cond b (coming_after up (SECOND * f.definition.exit_timeout) f.term_ordered) None
        out true later = after-same (SECOND * f.definition.exit_timeout) f.term_ordered later
        out false later = refl

  pub next-same : (f : Facts) → IsLater at (next_by f up) → next_by f at ≡ next_by f up
  next-same f later =
      let parts = parts-of f later in
      λ i. sooner (period-same f.definition.start_interval f.load_up parts.period i)
      (sooner (sooner (after-same (SECOND * f.definition.throttle_interval) f.spawn_ordered parts.spawn i) (after-same SECOND f.spawn_refused parts.refusal i))
      (of-child f.living_child parts.end i)) where
        of-child : (c : Option Child) → IsLater at (cond (is_some c) (coming_end f up) None) → cond (is_some c) (coming_end f at) None ≡ cond (is_some c) (coming_end f up) None
        of-child None later = refl
        of-child (Some c) later = end-same f later
