-- Only the newest moment of each kind can still be to come.
use Rattle.std.proofs.Common.{◌≡◌, ℕ, ◌+◌, ◌*◌, ◌≤◌, ◌==◌, Bool, true, false, not, ◌||◌, ◌&&◌, cond, Option, Some, None, is_some, List, [], ◌∷◌, ◌++◌, ◌-◌, min, refl, sym, ap, subst, ◌∙◌, arith, nat_lt}
use Rattle.std.specs.List.{filter, list_any}
use Rattle.std.proofs.lemmas.Bool.{eqb-true}
use Rattle.std.proofs.lemmas.Bool.Decides.{nat_tests}
use Rattle.history_model.specs.declared.Act.{Act}
use Rattle.history_model.specs.declared.Act.TheVariants.{Spawn, Term, Kill, Close, Gone}
use Rattle.history_model.specs.declared.Answer.TheVariants.{Spawned, SpawnRefused, Termed, Killed}
use Rattle.history_model.specs.Items.{Item, Loaded, Read, Saw, Asked, Came, Left, Ordered, Answered, RunEnded, WaitRefused, History}
use Rattle.history_model.specs.Search.{first, last, latest, since}
use Rattle.history_model.specs.Clock.{now, definition_of, load_of, moments, periods}
use Rattle.history_model.specs.Runs.{runs, child, awaited, is_stopped, is_struck}
use Rattle.history_model.specs.Kinds.{is_order, order_in, is_spawn, is_spawn_order, is_spawn_refusal, is_term, is_kill, is_term_order, is_term_answer, is_kill_answer}
use Rattle.history_model.specs.Due.{is_within, is_over, may_spawn, may_retry, may_kill, may_term, due}
use Rattle.history_model.specs.Refusals.{IsLawful}
use Rattle.history_model.specs.Facts.{facts_of}
use Rattle.history_model.specs.ByFacts.{settle}
use Rattle.history_model.specs.Moments.{later_by, timeouts, child_moments, waits, next_period, least_of, least, next_moment}
use Rattle.history_model.specs.NextMomentByFacts.{sooner, coming, coming_after, coming_period, coming_end, next_by}
use Rattle.history_model.specs.Demands.{waiting}
use Rattle.history_model.proofs.BooleanLemmas.{and-left, and-right, not-true, or-false}
use Rattle.history_model.proofs.LawfulLemmas.{Answers-from, due-Spawn, due-Kill-may, due_shape, unthrottled}
use Rattle.history_model.proofs.RunsLemmas.{kept_awaited, unless_settled-more, answered-settles, child-present, sound, refused-awaited}
use Rattle.history_model.proofs.ClockLemmas.{now-grows}
use Rattle.history_model.specs.declared.TheConstants.{SECOND}
use Rattle.history_model.proofs.FactsLemmas.{answer_term, answer_kill}
use Rattle.history_model.specs.declared.Child.{Child}

-- ---- the least of the moments that are still to come

min-assoc : (a b c : ℕ) → min (min a b) c ≡ min a (min b c)
min-assoc a b c = omega arith

sooner-None : (a : Option ℕ) → sooner a None ≡ a
sooner-None None = refl
sooner-None (Some m) = refl

sooner-assoc : (a b c : Option ℕ) → sooner (sooner a b) c ≡ sooner a (sooner b c)
sooner-assoc None b c = refl
sooner-assoc (Some m) None c = refl
sooner-assoc (Some m) (Some n) None = refl
sooner-assoc (Some m) (Some n) (Some k) = ap Some (min-assoc m n k)

least_of-min : (m k : ℕ) (ms : List ℕ) → least_of (min m k) ms ≡ min m (least_of k ms)
least_of-min m k [] = refl
least_of-min m k (j ∷ ms) = ap (λ n. least_of n ms) (min-assoc m k j) ∙ least_of-min m (min k j) ms

least-cons : (m : ℕ) (ms : List ℕ) → least (m ∷ ms) ≡ sooner (Some m) (least ms)
least-cons m [] = refl
least-cons m (k ∷ ms) = ap Some (least_of-min m k ms)

-- the least of them that is after this one
abbrev next_of : ℕ → List ℕ → Option ℕ
next_of up [] = None
next_of up (m ∷ ms) = sooner (coming up m) (next_of up ms)

next-least : (up : ℕ) (ms : List ℕ) → least (filter (nat_lt up) ms) ≡ next_of up ms
next-least up [] = refl
next-least up (m ∷ ms) = go (nat_lt up m) (next-least up ms) where
  go : (b : Bool) → least (filter (nat_lt up) ms) ≡ next_of up ms →
      least (cond b (m ∷ filter (nat_lt up) ms) (filter (nat_lt up) ms)) ≡ sooner (cond b (Some m) None) (next_of up ms)
  go true rest = least-cons m (filter (nat_lt up) ms) ∙ ap (sooner (Some m)) rest
  go false rest = rest

next-++ : (up : ℕ) (xs ys : List ℕ) → next_of up (xs ++ ys) ≡ sooner (next_of up xs) (next_of up ys)
next-++ up [] ys = refl
next-++ up (x ∷ xs) ys = ap (sooner (coming up x)) (next-++ up xs ys) ∙ sym (sooner-assoc (coming up x) (next_of up xs) (next_of up ys))

next-timeout : (up seconds : ℕ) (o : Option ℕ) →
    next_of up (timeouts seconds o) ≡ cond (nat_lt 0 seconds) (coming_after up (SECOND * seconds) o) None
next-timeout up seconds None = go (nat_lt 0 seconds) where
  go : (b : Bool) → next_of up [] ≡ cond b (coming_after up (SECOND * seconds) None) None
  go true = refl
  go false = refl
next-timeout up seconds (Some u) = go (nat_lt 0 seconds) where
  go : (b : Bool) → next_of up (cond b ((u + SECOND * seconds) ∷ []) []) ≡ cond b (coming up (u + SECOND * seconds)) None
  go true = sooner-None (coming up (u + SECOND * seconds))
  go false = refl

-- ---- only the newest can be to come

-- each of these moments is over
abbrev pub are_over : ℕ → ℕ → List ℕ → Type 0
are_over wait up ms = list_any (is_within wait up) ms ≡ false

over-later : (wait up later : ℕ) (ms : List ℕ) → up ≤ later → are_over wait up ms → are_over wait later ms
over-later wait up later [] le over = refl
over-later wait up later (m ∷ ms) le over =
    let both = or-false (is_within wait up m) (list_any (is_within wait up) ms) over in
    let here : is_within wait later m ≡ false = grind (arith, nat_tests, both.0, le) in
    rw here (over-later wait up later ms le both.1)

none-coming : (wait up : ℕ) (ms : List ℕ) → are_over wait up ms → next_of up (later_by wait ms) ≡ None
none-coming wait up [] over = refl
none-coming wait up (m ∷ ms) over =
    let both = or-false (is_within wait up m) (list_any (is_within wait up) ms) over in
    rw (both.0, none-coming wait up ms both.1) refl

-- items of a kind, each after moments of that kind that are over
abbrev pub AreSpaced : (Item → Bool) → ℕ → History → Type 0
AreSpaced p wait [] = Unit {0}
AreSpaced p wait (x ∷ t) = (p x ≡ true → are_over wait (now (x ∷ t)).up (moments p t)) × AreSpaced p wait t

-- so the newest one decides
newest-coming : (p : Item → Bool) (wait up : ℕ) (t : History) → IsLawful t → AreSpaced p wait t → (now t).up ≤ up →
    next_of up (later_by wait (moments p t)) ≡ coming_after up wait (first (moments p t))
newest-coming p wait up [] lawful spaced le = refl
newest-coming p wait up (x ∷ t) lawful spaced le =
    let grows = now-grows x t lawful in
    go (newest-coming p wait up t lawful.1 spaced.1 (omega (arith, grows, le))) (p x) refl where
      m : ℕ
      m = (now (x ∷ t)).up

      go : next_of up (later_by wait (moments p t)) ≡ coming_after up wait (first (moments p t)) → (b : Bool) → p x ≡ b →
          next_of up (later_by wait (cond b ((now (x ∷ t)).up ∷ moments p t) (moments p t))) ≡ coming_after up wait (first (cond b ((now (x ∷ t)).up ∷ moments p t) (moments p t)))
      go rest true e =
          let over = over-later wait (now (x ∷ t)).up up (moments p t) le (spaced.0 e) in
          rw (none-coming wait up (moments p t) over) (sooner-None (coming up ((now (x ∷ t)).up + wait)))
      go rest false e = rest

-- ---- refusals of a kind of order

pub record Kind (p : Item → Bool) (of : Act → Bool) : Type 0 where
  pub unordered : (act : Act) → p (Ordered act) ≡ false
  pub ready : (t : History) → IsLawful t → (act : Act) → due t ≡ Some act → of act ≡ true → are_over SECOND (now t).up (moments p t)
  pub awaiting : (x : Item) (t : History) → IsLawful (x ∷ t) → p x ≡ true → (act : Act) × (awaited t ≡ Some act) × (of act ≡ true) × (awaited (x ∷ t) ≡ None)

-- an item after which the order is still awaited refuses none of the kind
refused-here : (p : Item → Bool) (of : Act → Bool) → Kind p of → (x : Item) (t : History) → IsLawful (x ∷ t) → (act : Act) → awaited (x ∷ t) ≡ Some act → of act ≡ true →
    awaited (x ∷ t) ≡ settle x (awaited t) → (awaited t ≡ Some act → of act ≡ true → are_over SECOND (now t).up (moments p t)) →
    are_over SECOND (now (x ∷ t)).up (moments p (x ∷ t))
refused-here p of kind x t lawful act e fits settled older = go (p x) refl where
  before : awaited t ≡ Some act
  before = kept_awaited x (awaited t) act (sym settled ∙ e)

  go : (b : Bool) → p x ≡ b → are_over SECOND (now (x ∷ t)).up (cond b ((now (x ∷ t)).up ∷ moments p t) (moments p t))
  go true eb = let gone = (kind.awaiting x t lawful eb).3 in let no : None ≡ Some act = sym gone ∙ e in cc
  go false eb = over-later SECOND (now t).up (now (x ∷ t)).up (moments p t) (now-grows x t lawful) (older before fits)

-- while an order of the kind is awaited, its refusals are over
while-awaited : (p : Item → Bool) (of : Act → Bool) → Kind p of → (t : History) → IsLawful t → (act : Act) → awaited t ≡ Some act → of act ≡ true →
    are_over SECOND (now t).up (moments p t)
while-awaited p of kind [] lawful act e fits = cc
while-awaited p of kind (Ordered a ∷ t) lawful act e fits =
    let same : a ≡ act = cc in
    rw (kind.unordered a) (kind.ready t lawful.1 a lawful.0.1 (ap of same ∙ fits))
while-awaited p of kind (Loaded d at ∷ t) lawful act e fits = refused-here p of kind (Loaded d at) t lawful act e fits (unless_settled-more (Loaded d at) (since is_order t) (latest order_in t)) (while-awaited p of kind t lawful.1 act)
while-awaited p of kind (Read at calendar ∷ t) lawful act e fits = refused-here p of kind (Read at calendar) t lawful act e fits (unless_settled-more (Read at calendar) (since is_order t) (latest order_in t)) (while-awaited p of kind t lawful.1 act)
while-awaited p of kind (Saw path obs ∷ t) lawful act e fits = refused-here p of kind (Saw path obs) t lawful act e fits (unless_settled-more (Saw path obs) (since is_order t) (latest order_in t)) (while-awaited p of kind t lawful.1 act)
while-awaited p of kind (Asked ask ∷ t) lawful act e fits = refused-here p of kind (Asked ask) t lawful act e fits (unless_settled-more (Asked ask) (since is_order t) (latest order_in t)) (while-awaited p of kind t lawful.1 act)
while-awaited p of kind (Came conn ∷ t) lawful act e fits = refused-here p of kind (Came conn) t lawful act e fits (unless_settled-more (Came conn) (since is_order t) (latest order_in t)) (while-awaited p of kind t lawful.1 act)
while-awaited p of kind (Left conn ∷ t) lawful act e fits = refused-here p of kind (Left conn) t lawful act e fits (unless_settled-more (Left conn) (since is_order t) (latest order_in t)) (while-awaited p of kind t lawful.1 act)
while-awaited p of kind (Answered answer ∷ t) lawful act e fits = refused-here p of kind (Answered answer) t lawful act e fits (unless_settled-more (Answered answer) (since is_order t) (latest order_in t)) (while-awaited p of kind t lawful.1 act)
while-awaited p of kind (RunEnded run how ∷ t) lawful act e fits = refused-here p of kind (RunEnded run how) t lawful act e fits (unless_settled-more (RunEnded run how) (since is_order t) (latest order_in t)) (while-awaited p of kind t lawful.1 act)
while-awaited p of kind (WaitRefused run ∷ t) lawful act e fits = refused-here p of kind (WaitRefused run) t lawful act e fits (unless_settled-more (WaitRefused run) (since is_order t) (latest order_in t)) (while-awaited p of kind t lawful.1 act)

-- so they are spaced
kind-spaced : (p : Item → Bool) (of : Act → Bool) → Kind p of → (t : History) → IsLawful t → AreSpaced p SECOND t
kind-spaced p of kind [] lawful = tt
kind-spaced p of kind (x ∷ t) lawful = (
  λ e. let awaiting = kind.awaiting x t lawful e in
      over-later SECOND (now t).up (now (x ∷ t)).up (moments p t) (now-grows x t lawful) (while-awaited p of kind t lawful.1 awaiting.0 awaiting.1 awaiting.2),
  kind-spaced p of kind t lawful.1,
)

-- ---- spawn orders and their refusals

apart : (t : History) (run : ℕ) (conn : Option ℕ) → due t ≡ Some (Spawn run conn) →
    are_over (SECOND * (definition_of t).throttle_interval) (now t).up (moments is_spawn_order t) × are_over SECOND (now t).up (moments is_spawn_refusal t)
apart t run conn e =
    or-false (list_any (is_within (SECOND * (definition_of t).throttle_interval) (now t).up) (moments is_spawn_order t)) (list_any (is_within SECOND (now t).up) (moments is_spawn_refusal t)) (unthrottled t (due-Spawn t run conn e).may)

spawn_kind : Kind is_spawn_refusal is_spawn
spawn_kind = record {
  unordered = λ act. refl;
  ready = ready;
  awaiting = awaiting;
} where
  ready : (t : History) → IsLawful t → (act : Act) → due t ≡ Some act → is_spawn act ≡ true → are_over SECOND (now t).up (moments is_spawn_refusal t)
  ready t lawful (Spawn run conn) e fits = (apart t run conn e).1
  ready t lawful _ e fits = cc

  awaiting : (x : Item) (t : History) → IsLawful (x ∷ t) → is_spawn_refusal x ≡ true → (act : Act) × (awaited t ≡ Some act) × (is_spawn act ≡ true) × (awaited (x ∷ t) ≡ None)
  awaiting (Answered (SpawnRefused run)) t lawful e =
      let fact = Answers-from t (SpawnRefused run) lawful.0.1 in
      let order = refused-awaited t run fact in
      (Spawn run order.0, order.1, refl, answered-settles t (SpawnRefused run) fact)
  awaiting (Answered (Spawned run pid)) t lawful e = cc
  awaiting (Answered (Termed run ok)) t lawful e = cc
  awaiting (Answered (Killed run ok)) t lawful e = cc
  awaiting (Loaded d at) t lawful e = cc
  awaiting (Read at calendar) t lawful e = cc
  awaiting (Saw path obs) t lawful e = cc
  awaiting (Asked ask) t lawful e = cc
  awaiting (Came conn) t lawful e = cc
  awaiting (Left conn) t lawful e = cc
  awaiting (Ordered act) t lawful e = cc
  awaiting (RunEnded run how) t lawful e = cc
  awaiting (WaitRefused run) t lawful e = cc

-- ---- TERM and KILL, and their refusals

due-Term-may : (t : History) (run : ℕ) → due t ≡ Some (Term run) → may_term run t ≡ true
due-Term-may t run e = go (awaited t) (child t) e where
  spawning : (m : Bool) → cond m (Some (Spawn (runs t + 1) (first (waiting t)))) None ≡ Some (Term run) → ⊥
  spawning true e = cc
  spawning false e = cc

  stopping : (k m : Bool) (r : ℕ) → cond k (Some (Kill r)) (cond m (Some (Term r)) None) ≡ Some (Term run) → (r ≡ run) × (m ≡ true)
  stopping true m r e = cc
  stopping false true r e = (cc, refl)
  stopping false false r e = cc

  go : (o : Option Act) (c : Option Child) → due_shape o c t ≡ Some (Term run) → may_term run t ≡ true
  go (Some act) c e = cc
  go None None e = absurd (spawning (may_spawn t) e)
  go None (Some c) e = let both = stopping (may_kill c.run t) (may_term c.run t) c.run e in rw (← both.0) both.1

term-over : (t : History) (run : ℕ) → due t ≡ Some (Term run) → are_over SECOND (now t).up (moments (is_term_answer false run) t)
term-over t run e =
    let retry = and-right (not (is_struck t) && is_stopped t && not (list_any (is_kill_answer true run) t)) (may_retry is_term_answer run t) (due-Term-may t run e) in
    not-true (list_any (is_within SECOND (now t).up) (moments (is_term_answer false run) t)) (and-right (not (list_any (is_term_answer true run) t)) (not (list_any (is_within SECOND (now t).up) (moments (is_term_answer false run) t))) retry)

kill-over : (t : History) (run : ℕ) → due t ≡ Some (Kill run) → are_over SECOND (now t).up (moments (is_kill_answer false run) t)
kill-over t run e =
    let retry = and-right
    (is_struck t || (is_stopped t && nat_lt 0 (definition_of t).exit_timeout && is_over (SECOND * (definition_of t).exit_timeout) (now t).up (last (moments (is_term_order run) t))))
    (may_retry is_kill_answer run t) (due-Kill-may t run e) in
    not-true (list_any (is_within SECOND (now t).up) (moments (is_kill_answer false run) t)) (and-right (not (list_any (is_kill_answer true run) t)) (not (list_any (is_within SECOND (now t).up) (moments (is_kill_answer false run) t))) retry)

term_kind : (run : ℕ) → Kind (is_term_answer false run) (is_term run)
term_kind run = record {
  unordered = λ act. refl;
  ready = ready;
  awaiting = awaiting;
} where
  ready : (t : History) → IsLawful t → (act : Act) → due t ≡ Some act → is_term run act ≡ true → are_over SECOND (now t).up (moments (is_term_answer false run) t)
  ready t lawful (Term n) e fits = let same : n ≡ run = eqb-true n run fits in term-over t run (e ∙ ap (λ k. Some (Term k)) same)
  ready t lawful _ e fits = cc

  awaiting : (x : Item) (t : History) → IsLawful (x ∷ t) → is_term_answer false run x ≡ true → (act : Act) × (awaited t ≡ Some act) × (is_term run act ≡ true) × (awaited (x ∷ t) ≡ None)
  awaiting (Answered (Termed n ok)) t lawful e =
      let fact = Answers-from t (Termed n ok) lawful.0.1 in
      (Term n, fact.stands ∙ ap Some (answer_term n ok fact.act fact.fits), and-left (n == run) (not ok) e, answered-settles t (Termed n ok) fact)
  awaiting (Answered (Spawned n pid)) t lawful e = cc
  awaiting (Answered (SpawnRefused n)) t lawful e = cc
  awaiting (Answered (Killed n ok)) t lawful e = cc
  awaiting (Loaded d at) t lawful e = cc
  awaiting (Read at calendar) t lawful e = cc
  awaiting (Saw path obs) t lawful e = cc
  awaiting (Asked ask) t lawful e = cc
  awaiting (Came conn) t lawful e = cc
  awaiting (Left conn) t lawful e = cc
  awaiting (Ordered act) t lawful e = cc
  awaiting (RunEnded n how) t lawful e = cc
  awaiting (WaitRefused n) t lawful e = cc

kill_kind : (run : ℕ) → Kind (is_kill_answer false run) (is_kill run)
kill_kind run = record {
  unordered = λ act. refl;
  ready = ready;
  awaiting = awaiting;
} where
  ready : (t : History) → IsLawful t → (act : Act) → due t ≡ Some act → is_kill run act ≡ true → are_over SECOND (now t).up (moments (is_kill_answer false run) t)
  ready t lawful (Kill n) e fits = let same : n ≡ run = eqb-true n run fits in kill-over t run (e ∙ ap (λ k. Some (Kill k)) same)
  ready t lawful _ e fits = cc

  awaiting : (x : Item) (t : History) → IsLawful (x ∷ t) → is_kill_answer false run x ≡ true → (act : Act) × (awaited t ≡ Some act) × (is_kill run act ≡ true) × (awaited (x ∷ t) ≡ None)
  awaiting (Answered (Killed n ok)) t lawful e =
      let fact = Answers-from t (Killed n ok) lawful.0.1 in
      (Kill n, fact.stands ∙ ap Some (answer_kill n ok fact.act fact.fits), and-left (n == run) (not ok) e, answered-settles t (Killed n ok) fact)
  awaiting (Answered (Spawned n pid)) t lawful e = cc
  awaiting (Answered (SpawnRefused n)) t lawful e = cc
  awaiting (Answered (Termed n ok)) t lawful e = cc
  awaiting (Loaded d at) t lawful e = cc
  awaiting (Read at calendar) t lawful e = cc
  awaiting (Saw path obs) t lawful e = cc
  awaiting (Asked ask) t lawful e = cc
  awaiting (Came conn) t lawful e = cc
  awaiting (Left conn) t lawful e = cc
  awaiting (Ordered act) t lawful e = cc
  awaiting (RunEnded n how) t lawful e = cc
  awaiting (WaitRefused n) t lawful e = cc

-- ---- spawn orders

orders-spaced : (wait : ℕ) (t : History) → IsLawful t → SECOND * (definition_of t).throttle_interval ≡ wait → AreSpaced is_spawn_order wait t
orders-spaced wait [] lawful same = tt
orders-spaced wait (Ordered (Spawn run conn) ∷ t) lawful same =
    ((λ e. subst (λ w. are_over w (now t).up (moments is_spawn_order t)) same (apart t run conn lawful.0.1).0), orders-spaced wait t lawful.1 same)
orders-spaced wait (Ordered (Term run) ∷ t) lawful same = ((λ e. cc), orders-spaced wait t lawful.1 same)
orders-spaced wait (Ordered (Kill run) ∷ t) lawful same = ((λ e. cc), orders-spaced wait t lawful.1 same)
orders-spaced wait (Ordered (Close conn) ∷ t) lawful same = ((λ e. cc), orders-spaced wait t lawful.1 same)
orders-spaced wait (Ordered Gone ∷ t) lawful same = ((λ e. cc), orders-spaced wait t lawful.1 same)
orders-spaced wait (Loaded d at ∷ t) lawful same = ((λ e. cc), rw lawful.0.0 tt)
orders-spaced wait (Read at calendar ∷ t) lawful same = ((λ e. cc), orders-spaced wait t lawful.1 same)
orders-spaced wait (Saw path obs ∷ t) lawful same = ((λ e. cc), orders-spaced wait t lawful.1 same)
orders-spaced wait (Asked ask ∷ t) lawful same = ((λ e. cc), orders-spaced wait t lawful.1 same)
orders-spaced wait (Came conn ∷ t) lawful same = ((λ e. cc), orders-spaced wait t lawful.1 same)
orders-spaced wait (Left conn ∷ t) lawful same = ((λ e. cc), orders-spaced wait t lawful.1 same)
orders-spaced wait (Answered answer ∷ t) lawful same = ((λ e. cc), orders-spaced wait t lawful.1 same)
orders-spaced wait (RunEnded run how ∷ t) lawful same = ((λ e. cc), orders-spaced wait t lawful.1 same)
orders-spaced wait (WaitRefused run ∷ t) lawful same = ((λ e. cc), orders-spaced wait t lawful.1 same)

-- ---- the moments of spawns, and of a run's end, at the present reading and after it

-- the newest spawn order and the newest refusal give the next moment of all of them
pub next-spawn : (t : History) → IsLawful t → (up : ℕ) → (now t).up ≤ up →
    least (filter (nat_lt up) (later_by (SECOND * (definition_of t).throttle_interval) (moments is_spawn_order t) ++ later_by SECOND (moments is_spawn_refusal t)))
    ≡ sooner (coming_after up (SECOND * (definition_of t).throttle_interval) (first (moments is_spawn_order t))) (coming_after up SECOND (first (moments is_spawn_refusal t)))
next-spawn t lawful up le =
    let wait = SECOND * (definition_of t).throttle_interval in
    let spawned = later_by wait (moments is_spawn_order t) in
    let refused = later_by SECOND (moments is_spawn_refusal t) in
    next-least up (spawned ++ refused)
    ∙ next-++ up spawned refused
    ∙ (λ i. sooner (newest-coming is_spawn_order wait up t lawful (orders-spaced wait t lawful refl) le i)
    (newest-coming is_spawn_refusal SECOND up t lawful (kind-spaced is_spawn_refusal is_spawn spawn_kind t lawful) le i))

-- the first TERM, the newest refused TERM and the newest refused KILL give that of all of a run's
pub next-end : (t : History) → IsLawful t → (up : ℕ) → (now t).up ≤ up → (run : ℕ) →
    least (filter (nat_lt up) (timeouts (definition_of t).exit_timeout (last (moments (is_term_order run) t)) ++ later_by SECOND (moments (is_term_answer false run) t) ++ later_by SECOND (moments (is_kill_answer false run) t)))
    ≡ sooner (cond (nat_lt 0 (definition_of t).exit_timeout) (coming_after up (SECOND * (definition_of t).exit_timeout) (last (moments (is_term_order run) t))) None)
    (sooner (coming_after up SECOND (first (moments (is_term_answer false run) t))) (coming_after up SECOND (first (moments (is_kill_answer false run) t))))
next-end t lawful up le run =
    let outs = timeouts (definition_of t).exit_timeout (last (moments (is_term_order run) t)) in
    let refused = later_by SECOND (moments (is_term_answer false run) t) in
    let killed = later_by SECOND (moments (is_kill_answer false run) t) in
    next-least up (outs ++ refused ++ killed)
    ∙ next-++ up (outs ++ refused) killed
    ∙ ap (λ m. sooner m (next_of up killed)) (next-++ up outs refused)
    ∙ sooner-assoc (next_of up outs) (next_of up refused) (next_of up killed)
    ∙ (λ i. sooner (next-timeout up (definition_of t).exit_timeout (last (moments (is_term_order run) t)) i)
    (sooner (newest-coming (is_term_answer false run) SECOND up t lawful (kind-spaced (is_term_answer false run) (is_term run) (term_kind run) t lawful) le i)
    (newest-coming (is_kill_answer false run) SECOND up t lawful (kind-spaced (is_kill_answer false run) (is_kill run) (kill_kind run) t lawful) le i)))

-- ---- the next moment

period-first : (seconds : Option ℕ) (load up : ℕ) (ms : List ℕ) → least (next_period seconds load up ++ ms) ≡ sooner (coming_period seconds load up) (least ms)
period-first None load up ms = refl
period-first (Some seconds) load up ms = least-cons (load + SECOND * seconds * (periods seconds (up - load) + 1)) ms

module _ (t : History) (lawful : IsLawful t) where
  abbrev up : ℕ
  up = (now t).up

  orders : next_of up (later_by (SECOND * (definition_of t).throttle_interval) (moments is_spawn_order t)) ≡ coming_after up (SECOND * (definition_of t).throttle_interval) (first (moments is_spawn_order t))
  orders = newest-coming is_spawn_order (SECOND * (definition_of t).throttle_interval) up t lawful (orders-spaced (SECOND * (definition_of t).throttle_interval) t lawful refl) (omega arith)

  refusals : next_of up (later_by SECOND (moments is_spawn_refusal t)) ≡ coming_after up SECOND (first (moments is_spawn_refusal t))
  refusals = newest-coming is_spawn_refusal SECOND up t lawful (kind-spaced is_spawn_refusal is_spawn spawn_kind t lawful) (omega arith)

  terms : (run : ℕ) → next_of up (later_by SECOND (moments (is_term_answer false run) t)) ≡ coming_after up SECOND (first (moments (is_term_answer false run) t))
  terms run = newest-coming (is_term_answer false run) SECOND up t lawful (kind-spaced (is_term_answer false run) (is_term run) (term_kind run) t lawful) (omega arith)

  kills : (run : ℕ) → next_of up (later_by SECOND (moments (is_kill_answer false run) t)) ≡ coming_after up SECOND (first (moments (is_kill_answer false run) t))
  kills run = newest-coming (is_kill_answer false run) SECOND up t lawful (kind-spaced (is_kill_answer false run) (is_kill run) (kill_kind run) t lawful) (omega arith)

  run_moments : (c : Option Child) → child t ≡ c → next_of up (child_moments c t) ≡ cond (is_some c) (coming_end (facts_of t) up) None
  run_moments None e = refl
  run_moments (Some c) e =
      let number : c.run ≡ runs t = (child-present t c (sound t lawful).0 e).0 in
      let outs = timeouts (definition_of t).exit_timeout (last (moments (is_term_order c.run) t)) in
      let refused = later_by SECOND (moments (is_term_answer false c.run) t) in
      let killed = later_by SECOND (moments (is_kill_answer false c.run) t) in
      next-++ up (outs ++ refused) killed
      ∙ ap (λ m. sooner m (next_of up killed)) (next-++ up outs refused)
      ∙ sooner-assoc (next_of up outs) (next_of up refused) (next_of up killed)
      ∙ (λ i. sooner (next-timeout up (definition_of t).exit_timeout (last (moments (is_term_order c.run) t)) i) (sooner (terms c.run i) (kills c.run i)))
      ∙ (λ i. sooner (cond (nat_lt 0 (definition_of t).exit_timeout) (coming_after up (SECOND * (definition_of t).exit_timeout) (last (moments (is_term_order (number i)) t))) None)
      (sooner (coming_after up SECOND (first (moments (is_term_answer false (number i)) t))) (coming_after up SECOND (first (moments (is_kill_answer false (number i)) t)))))

  -- the facts give the least of all moments to come
  pub next-by : next_moment t ≡ next_by (facts_of t) (now t).up
  next-by =
      let spawned = later_by (SECOND * (definition_of t).throttle_interval) (moments is_spawn_order t) in
      let refused = later_by SECOND (moments is_spawn_refusal t) in
      let beside = child_moments (child t) t in
      period-first (definition_of t).start_interval (load_of t).at.up up (filter (nat_lt up) (waits t))
      ∙ ap (sooner (coming_period (definition_of t).start_interval (load_of t).at.up up))
      (next-least up (waits t)
      ∙ next-++ up (spawned ++ refused) beside
      ∙ ap (λ m. sooner m (next_of up beside)) (next-++ up spawned refused)
      ∙ (λ i. sooner (sooner (orders i) (refusals i)) (run_moments (child t) refl i)))
