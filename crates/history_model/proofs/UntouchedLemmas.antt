-- A clock reading that touches no moment of a job changes none of its orders.
use Rattle.std.proofs.Common.{ap, ◌≡◌, ℕ, ◌+◌, ◌*◌, ◌≤◌, Bool, true, false, not, ◌||◌, ◌&&◌, cond, Option, Some, None, is_some, List, [], ◌∷◌, ◌++◌, refl, sym, ◌∙◌, subst, nat_lt, nat_le, arith}
use Rattle.std.proofs.lemmas.Bool.Decides.{nat_tests}
use Rattle.std.specs.List.{list_any}
use Rattle.history_model.specs.declared.Reading.{Reading}
use Rattle.history_model.specs.declared.Act.{Act}
use Rattle.history_model.specs.declared.Act.TheVariants.{Spawn, Term, Kill}
use Rattle.history_model.specs.Items.{Read, History}
use Rattle.history_model.specs.Search.{first, last}
use Rattle.history_model.specs.Clock.{now, load_of, definition_of, moments, crosses_interval}
use Rattle.history_model.specs.Step.{acts_of, listed}
use Rattle.history_model.specs.Runs.{is_gone, is_stopped, is_struck, runs, child, awaited}
use Rattle.history_model.specs.Kinds.{is_spawn_order, is_spawn_refusal, is_term_order, is_term_answer, is_kill_answer}
use Rattle.history_model.specs.Demands.{waiting}
use Rattle.history_model.specs.Due.{is_within, is_over, may_spawn, may_kill, may_term, may_retry, due, due_beside}
use Rattle.history_model.specs.Moments.{later_by, timeouts, child_moments, waits, is_reached, is_minute_crossed, touches}
use Rattle.history_model.specs.declared.Entry.{Entry}
use Rattle.history_model.specs.Calendar.{Zone, allows, matches, crossed, calendar_fires}
use Rattle.history_model.proofs.BooleanLemmas.{or-false}
use Rattle.history_model.specs.declared.TheConstants.{SECOND}
use Rattle.history_model.specs.declared.Child.{Child}

any-++ : {X : Type 0} (p : X → Bool) (xs ys : List X) → list_any p (xs ++ ys) ≡ false → (list_any p xs ≡ false) × (list_any p ys ≡ false)
any-++ p [] ys none = (refl, none)
any-++ p (x ∷ xs) ys none =
    let both = or-false (p x) (list_any p (xs ++ ys)) none in
    let rest = any-++ p xs ys both.1 in
    (rw (both.0, rest.0) refl, rest.1)

-- a moment that is not reached is as near as before
module _ (a b : ℕ) (later : a ≤ b) where
  near-same : (m : ℕ) → is_reached a b m ≡ false → nat_lt b m ≡ nat_lt a m
  near-same m none = go (nat_lt b m) (nat_lt a m) refl refl none where
    go : (x y : Bool) → nat_lt b m ≡ x → nat_lt a m ≡ y → (y && nat_le m b) ≡ false → x ≡ y
    go true true ex ey none = refl
    go false false ex ey none = refl
    go true false ex ey none = absurd (grind (arith, nat_tests, ex, ey, later))
    go false true ex ey none = absurd (grind (arith, nat_tests, ex, none))

  over-not : (m : ℕ) → nat_le m b ≡ not (nat_lt b m)
  over-not m = go (nat_le m b) (nat_lt b m) refl refl where
    go : (x y : Bool) → nat_le m b ≡ x → nat_lt b m ≡ y → x ≡ not y
    go true false ex ey = refl
    go false true ex ey = refl
    go true true ex ey = absurd (grind (arith, nat_tests, ex, ey))
    go false false ex ey = absurd (grind (arith, nat_tests, ex, ey))

  over-same : (m : ℕ) → is_reached a b m ≡ false → nat_le m b ≡ nat_le m a
  over-same m none = go (nat_le m b) (nat_le m a) refl refl none where
    go : (x y : Bool) → nat_le m b ≡ x → nat_le m a ≡ y → (nat_lt a m && nat_le m b) ≡ false → x ≡ y
    go true true ex ey none = refl
    go false false ex ey none = refl
    go true false ex ey none = absurd (grind (arith, nat_tests, ex, ey, none))
    go false true ex ey none = absurd (grind (arith, nat_tests, ex, ey, later))

  within-same : (wait : ℕ) (us : List ℕ) → list_any (is_reached a b) (later_by wait us) ≡ false → list_any (is_within wait b) us ≡ list_any (is_within wait a) us
  within-same wait [] none = refl
  within-same wait (u ∷ us) none =
      let both = or-false (is_reached a b (u + wait)) (list_any (is_reached a b) (later_by wait us)) none in
      rw (near-same (u + wait) both.0, within-same wait us both.1) refl

  timeout-same : (seconds : ℕ) (o : Option ℕ) → list_any (is_reached a b) (timeouts seconds o) ≡ false →
      (nat_lt 0 seconds && is_over (SECOND * seconds) b o) ≡ (nat_lt 0 seconds && is_over (SECOND * seconds) a o)
  timeout-same seconds None none = refl
  timeout-same seconds (Some u) none = go (nat_lt 0 seconds) none where
    go : (v : Bool) → list_any (is_reached a b) (cond v ((u + SECOND * seconds) ∷ []) []) ≡ false → (v && nat_le (u + SECOND * seconds) b) ≡ (v && nat_le (u + SECOND * seconds) a)
    go true none = over-same (u + SECOND * seconds) (or-false (is_reached a b (u + SECOND * seconds)) false none).0
    go false none = refl

-- one of the tests and the other change alike
pub kill-shape : (struck stopped e o o' r r' : Bool) → (e && o) ≡ (e && o') → r ≡ r' → ((struck || (stopped && e && o)) && r) ≡ ((struck || (stopped && e && o')) && r')
kill-shape struck true e o o' r r' same retry = λ i. (struck || same i) && retry i
kill-shape struck false e o o' r r' same retry = λ i. (struck || false) && retry i

module _ (t : History) (at : Reading) (later : (now t).up ≤ at.up) (c : Child) (beside : list_any (is_reached (now t).up at.up) (child_moments (Some c) t) ≡ false) where
  abbrev terms : List ℕ
  terms = later_by SECOND (moments (is_term_answer false c.run) t)

  abbrev kills : List ℕ
  kills = later_by SECOND (moments (is_kill_answer false c.run) t)

  abbrev outs : List ℕ
  outs = timeouts (definition_of t).exit_timeout (last (moments (is_term_order c.run) t))

  outer : (list_any (is_reached (now t).up at.up) (outs ++ terms) ≡ false) × (list_any (is_reached (now t).up at.up) kills ≡ false)
  outer = any-++ (is_reached (now t).up at.up) (outs ++ terms) kills beside

  inner : (list_any (is_reached (now t).up at.up) outs ≡ false) × (list_any (is_reached (now t).up at.up) terms ≡ false)
  inner = any-++ (is_reached (now t).up at.up) outs terms outer.0

  kill-same : may_kill c.run (Read at false ∷ t) ≡ may_kill c.run t
  kill-same =
      kill-shape (is_struck t) (is_stopped t) (nat_lt 0 (definition_of t).exit_timeout)
      (is_over (SECOND * (definition_of t).exit_timeout) at.up (last (moments (is_term_order c.run) t))) (is_over (SECOND * (definition_of t).exit_timeout) (now t).up (last (moments (is_term_order c.run) t)))
      (may_retry is_kill_answer c.run (Read at false ∷ t)) (may_retry is_kill_answer c.run t)
      (timeout-same (now t).up at.up later (definition_of t).exit_timeout (last (moments (is_term_order c.run) t)) inner.0)
      (rw (within-same (now t).up at.up later SECOND (moments (is_kill_answer false c.run) t) outer.1) refl)

  term-same : may_term c.run (Read at false ∷ t) ≡ may_term c.run t
  term-same = rw (within-same (now t).up at.up later SECOND (moments (is_term_answer false c.run) t) inner.1) refl

  beside-same : due_beside (Some c) (Read at false ∷ t) ≡ due_beside (Some c) t
  beside-same = λ i. cond (kill-same i) (Some (Kill c.run)) (cond (term-same i) (Some (Term c.run)) None)

-- the orders are the same
pub untouched-due : (t : History) (at : Reading) → (now t).up ≤ at.up →
    crosses_interval (definition_of t).start_interval (load_of t).at.up (now t).up at.up ≡ false →
    list_any (is_reached (now t).up at.up) (waits t) ≡ false → due (Read at false ∷ t) ≡ due t
untouched-due t at later no_period none = go (awaited t) (child t) refl where
  reached : ℕ → Bool
  reached = is_reached (now t).up at.up

  spawn_waits : List ℕ
  spawn_waits = later_by (SECOND * (definition_of t).throttle_interval) (moments is_spawn_order t)

  refusal_waits : List ℕ
  refusal_waits = later_by SECOND (moments is_spawn_refusal t)

  parts : (list_any (is_reached (now t).up at.up) (spawn_waits ++ refusal_waits) ≡ false) × (list_any (is_reached (now t).up at.up) (child_moments (child t) t) ≡ false)
  parts = any-++ (is_reached (now t).up at.up) (spawn_waits ++ refusal_waits) (child_moments (child t) t) none

  spawns : (list_any (is_reached (now t).up at.up) spawn_waits ≡ false) × (list_any (is_reached (now t).up at.up) refusal_waits ≡ false)
  spawns = any-++ (is_reached (now t).up at.up) spawn_waits refusal_waits parts.0

  spawn-same : may_spawn (Read at false ∷ t) ≡ may_spawn t
  spawn-same =
      rw (
        no_period,
        within-same (now t).up at.up later (SECOND * (definition_of t).throttle_interval) (moments is_spawn_order t) spawns.0,
        within-same (now t).up at.up later SECOND (moments is_spawn_refusal t) spawns.1,
      ) refl

  go : (o : Option Act) (c : Option Child) → c ≡ child t → cond (is_some o) None (due_beside c (Read at false ∷ t)) ≡ cond (is_some o) None (due_beside c t)
  go (Some act) c e = refl
  go None None e = λ i. cond (spawn-same i) (Some (Spawn (runs t + 1) (first (waiting t)))) None
  go None (Some c) e = beside-same t at later c (subst (λ (o : Option Child). list_any (is_reached (now t).up at.up) (child_moments o t) ≡ false) (sym e) parts.1)

-- ---- calendars

pub list_any-none : {X : Type 0} (p : X → Bool) → ((x : X) → p x ≡ false) → (xs : List X) → list_any p xs ≡ false
list_any-none p fails [] = refl
list_any-none p fails (x ∷ xs) = rw (fails x, list_any-none p fails xs) refl

pub none_at : (zone : Zone) (ms : List ℕ) (entries : List Entry) → list_any (is_minute_crossed zone ms) entries ≡ false →
    list_any (λ m. list_any (λ entry. matches entry (zone m)) entries) ms ≡ false
none_at zone ms [] none = list_any-none (λ m. list_any (λ (entry : Entry). matches entry (zone m)) []) (λ m. refl) ms
none_at zone ms (entry ∷ entries) none =
    let both = or-false (is_minute_crossed zone ms entry) (list_any (is_minute_crossed zone ms) entries) none in
    together (λ m. matches entry (zone m)) (λ m. list_any (λ entry. matches entry (zone m)) entries) ms (other_minute ms both.0) (none_at zone ms entries both.1) where
      other_minute : (ms : List ℕ) → list_any (λ m. allows entry.minute (zone m).minute) ms ≡ false → list_any (λ m. matches entry (zone m)) ms ≡ false
      other_minute [] none = refl
      other_minute (m ∷ ms) none =
          let both = or-false (allows entry.minute (zone m).minute) (list_any (λ m. allows entry.minute (zone m).minute) ms) none in
          rw (both.0, other_minute ms both.1) refl

      together : (p q : ℕ → Bool) (ms : List ℕ) → list_any p ms ≡ false → list_any q ms ≡ false → list_any (λ m. p m || q m) ms ≡ false
      together p q [] np nq = refl
      together p q (m ∷ ms) np nq =
          let bp = or-false (p m) (list_any p ms) np in
          let bq = or-false (q m) (list_any q ms) nq in
          rw (bp.0, bq.0, together p q ms bp.1 bq.1) refl

-- a clock reading that does not touch the job changes none of its orders
pub untouched : (zone : Zone) (at : Reading) (t : History) → (now t).up ≤ at.up → touches zone at t ≡ false →
    due (Read at (calendar_fires zone (definition_of t).calendar (now t).wall at.wall) ∷ t) ≡ due t
untouched zone at t later none =
    let outer = or-false (crosses_interval (definition_of t).start_interval (load_of t).at.up (now t).up at.up || list_any (is_reached (now t).up at.up) (waits t))
    (list_any (is_minute_crossed zone (crossed (now t).wall at.wall)) (definition_of t).calendar) none in
    let inner = or-false (crosses_interval (definition_of t).start_interval (load_of t).at.up (now t).up at.up) (list_any (is_reached (now t).up at.up) (waits t)) outer.0 in
    (λ i. due (Read at (none_at zone (crossed (now t).wall at.wall) (definition_of t).calendar outer.1 i) ∷ t))
    ∙ untouched-due t at later inner.0 inner.1

pub untouched-acts : (zone : Zone) (at : Reading) (t : History) → (now t).up ≤ at.up → touches zone at t ≡ false → due t ≡ None → is_gone t ≡ false →
    acts_of (Read at (calendar_fires zone (definition_of t).calendar (now t).wall at.wall) ∷ t) ≡ []
untouched-acts zone at t later none idle staying = rw staying (ap listed (untouched zone at t later none ∙ idle))
