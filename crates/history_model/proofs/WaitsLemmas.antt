-- An answered order leads to orders of a lesser weight.
use Rattle.std.proofs.Common.{◌≡◌, ℕ, ◌+◌, ◌*◌, ◌<◌, ◌≤◌, ltb, leb, Bool, true, false, not, ◌||◌, ◌&&◌, cond, Option, Some, None, is_some, List, [], ◌∷◌, ◌++◌, map, refl, sym, ap, ◌∙◌, arith}
use Rattle.std.proofs.lemmas.Bool.Decides.{nat_tests}
use Rattle.history_model.specs.declared.Act.{Act}
use Rattle.history_model.specs.declared.Act.TheVariants.{Spawn, Term, Kill, Close, Gone}
use Rattle.history_model.specs.declared.Answer.{Answer}
use Rattle.history_model.specs.declared.Answer.TheVariants.{Spawned, SpawnRefused, Termed, Killed}
use Rattle.history_model.specs.Items.{History, Ordered, Answered}
use Rattle.history_model.specs.Search.{first, or_else}
use Rattle.history_model.specs.Clock.{now}
use Rattle.history_model.specs.Runs.{is_answer_to, is_gone}
use Rattle.history_model.specs.Demands.{waiting}
use Rattle.history_model.specs.Due.{due, is_over}
use Rattle.history_model.specs.Refusals.{refusal_of, IsLawful}
use Rattle.history_model.specs.Facts.{Facts, facts_of}
use Rattle.history_model.specs.ByFacts.{facts_after}
use Rattle.history_model.specs.DueByFacts.{due_by, due_beside_by, may_spawn_by, may_kill_by, may_term_by, is_newest_within}
use Rattle.history_model.specs.Step.{acts_of, listed}
use Rattle.history_model.specs.AwaitedOrders.{weight}
use Rattle.history_model.specs.declared.Refusal.TheVariants.{Stale}
use Rattle.history_model.proofs.BooleanLemmas.{and-false}
use Rattle.history_model.proofs.LawfulLemmas.{unless-None}
use Rattle.history_model.proofs.ByFactsLemmas.{due-by, facts-after}
use Rattle.history_model.specs.declared.TheConstants.{SECOND}
use Rattle.history_model.specs.declared.Child.{Child}

abbrev pub weigh_one : Option Act → ℕ
weigh_one None = 0
weigh_one (Some act) = weight act

abbrev pub weigh : List Act → ℕ
weigh [] = 0
weigh (act ∷ acts) = weight act + weigh acts

weigh-closes : (conns : List ℕ) → weigh (map Close conns ++ Gone ∷ []) ≡ 0
weigh-closes [] = refl
weigh-closes (c ∷ conns) = omega (arith, weigh-closes conns)

pub weigh-acts : (t : History) → weigh (acts_of t) ≤ weigh_one (due t)
weigh-acts t = go (is_gone t) (due t) where
  go : (g : Bool) (o : Option Act) → weigh (cond g (map Close (waiting t) ++ Gone ∷ []) (listed o)) ≤ weigh_one o
  go true o = rw (weigh-closes (waiting t)) (omega arith)
  go false None = omega arith
  go false (Some act) = omega arith

-- ---- by the facts

lt-later : (a n : ℕ) → 0 < n → ltb a (a + n) ≡ true
lt-later a n h = grind (arith, nat_tests)

within-now : (up : ℕ) → is_newest_within SECOND up (Some up) ≡ true
within-now up = lt-later up SECOND (omega arith)

-- with a child no spawn is due
beside-child : (f : Facts) (up : ℕ) (c : Child) → f.living_child ≡ Some c → weigh_one (due_by f up) ≤ 2
beside-child f up c e = rw e (go (is_some f.awaited_act) (may_kill_by f up) (may_term_by f up)) where
  go : (a k m : Bool) → weigh_one (cond a None (cond k (Some (Kill c.run)) (cond m (Some (Term c.run)) None))) ≤ 2
  go true k m = omega arith
  go false true m = omega arith
  go false false true = omega arith
  go false false false = omega arith

-- nor if one may not be given
unless-spawn : (f : Facts) (up : ℕ) → may_spawn_by f up ≡ false → weigh_one (due_by f up) ≤ 2
unless-spawn f up e = pick (is_some f.awaited_act) f.living_child where
  pick : (a : Bool) (o : Option Child) → weigh_one (cond a None (due_beside_by o f up)) ≤ 2
  pick true o = omega arith
  pick false None = rw e (omega arith)
  pick false (Some c) = go (may_kill_by f up) (may_term_by f up) where
    go : (k m : Bool) → weigh_one (cond k (Some (Kill c.run)) (cond m (Some (Term c.run)) None)) ≤ 2
    go true m = omega arith
    go false true = omega arith
    go false false = omega arith

-- a TERM that is due is not a KILL that is due, and so it stays at the same moment
term-not-kill : (f : Facts) (up run : ℕ) → due_by f up ≡ Some (Term run) → (may_kill_by f up ≡ false) × (c : Child) × (f.living_child ≡ Some c)
term-not-kill f up run e = pick (is_some f.awaited_act) f.living_child refl e where
  pick : (a : Bool) (o : Option Child) → f.living_child ≡ o → cond a None (due_beside_by o f up) ≡ Some (Term run) → (may_kill_by f up ≡ false) × (c : Child) × (f.living_child ≡ Some c)
  pick true o is e = cc
  pick false None is e = go (may_spawn_by f up) e where
    go : (v : Bool) → cond v (Some (Spawn (f.run_count + 1) (first f.queue))) None ≡ Some (Term run) → (may_kill_by f up ≡ false) × (c : Child) × (f.living_child ≡ Some c)
    go true e = cc
    go false e = cc
  pick false (Some c) is e = go (may_kill_by f up) refl e where
    go : (v : Bool) → may_kill_by f up ≡ v → cond v (Some (Kill c.run)) (cond (may_term_by f up) (Some (Term c.run)) None) ≡ Some (Term run) → (may_kill_by f up ≡ false) × (c : Child) × (f.living_child ≡ Some c)
    go true k e = cc
    go false k e = (k, c, is)

-- once TERM was ordered, KILL is not due at the same moment
still-quiet : (strikes stops b over rest : Bool) → (b && over) ≡ false → ((strikes || stops && b && false) && rest) ≡ false → ((strikes || stops && b && over) && rest) ≡ false
still-quiet true stops b over rest near e = e
still-quiet false true true true rest near e = cc
still-quiet false true true false rest near e = refl
still-quiet false true false over rest near e = refl
still-quiet false false b over rest near e = refl

zero-over : (n up : ℕ) → (ltb 0 n && leb (up + SECOND * n) up) ≡ false
zero-over n up = grind (arith, nat_tests)

no-more : (a b : Bool) → (a && (b && false)) ≡ false
no-more true true = refl
no-more true false = refl
no-more false b = refl

none-left : (c : Child) (k m : Bool) → k ≡ false → m ≡ false → weigh_one (cond k (Some (Kill c.run)) (cond m (Some (Term c.run)) None)) ≡ 0
none-left c k m e1 e2 = rw (e1, e2) refl

termed-light : (f : Facts) (up run : ℕ) (ok : Bool) → due_by f up ≡ Some (Term run) → weigh_one (due_by (facts_after (Answered (Termed run ok)) up (facts_after (Ordered (Term run)) up f)) up) ≡ 0
termed-light f up run ok e =
    let before = term-not-kill f up run e in
    go before.1 before.2 (later f.term_ordered before.0) ok where
      g : Bool → Facts
      g ok = facts_after (Answered (Termed run ok)) up (facts_after (Ordered (Term run)) up f)

      later : (o : Option ℕ) →
          ((f.is_struck || (f.is_stopping && ltb 0 f.definition.exit_timeout && is_over (SECOND * f.definition.exit_timeout) up o)) && (not f.is_kill_done && not (is_newest_within SECOND up f.kill_refused))) ≡ false →
          ((f.is_struck || (f.is_stopping && ltb 0 f.definition.exit_timeout && is_over (SECOND * f.definition.exit_timeout) up (or_else o (Some up)))) && (not f.is_kill_done && not (is_newest_within SECOND up f.kill_refused))) ≡ false
      later (Some moment) e = e
      later None e =
          still-quiet f.is_struck f.is_stopping (ltb 0 f.definition.exit_timeout) (leb (up + SECOND * f.definition.exit_timeout) up) (not f.is_kill_done && not (is_newest_within SECOND up f.kill_refused))
          (zero-over f.definition.exit_timeout up) e

      go : (c : Child) → f.living_child ≡ Some c → may_kill_by (g true) up ≡ false → (b : Bool) → weigh_one (due_by (g b) up) ≡ 0
      go c is quiet true = rw is (none-left c (may_kill_by (g true) up) (may_term_by (g true) up) quiet (and-false _))
      go c is quiet false = rw is (none-left c (may_kill_by (g true) up) (may_term_by (g false) up) quiet (rw (within-now up) (no-more _ _)))

-- once KILL was ordered and answered, it is not due again
killed-light : (f : Facts) (up run : ℕ) (ok : Bool) (c : Child) → f.living_child ≡ Some c → weigh_one (due_by (facts_after (Answered (Killed run ok)) up (facts_after (Ordered (Kill run)) up f)) up) ≤ 1
killed-light f up run ok c is = go ok where
  g : Bool → Facts
  g ok = facts_after (Answered (Killed run ok)) up (facts_after (Ordered (Kill run)) up f)

  one : (k m : Bool) → k ≡ false → weigh_one (cond k (Some (Kill c.run)) (cond m (Some (Term c.run)) None)) ≤ 1
  one k true e = rw e (omega arith)
  one k false e = rw e (omega arith)

  go : (b : Bool) → weigh_one (due_by (g b) up) ≤ 1
  go true = rw is (one (may_kill_by (g true) up) (may_term_by (g true) up) (and-false _))
  go false = rw is (one (may_kill_by (g false) up) (may_term_by (g false) up) (rw (within-now up) (no-more _ _)))

kill-child : (f : Facts) (up run : ℕ) → due_by f up ≡ Some (Kill run) → (c : Child) × (f.living_child ≡ Some c)
kill-child f up run e = pick (is_some f.awaited_act) f.living_child refl e where
  pick : (a : Bool) (o : Option Child) → f.living_child ≡ o → cond a None (due_beside_by o f up) ≡ Some (Kill run) → (c : Child) × (f.living_child ≡ Some c)
  pick true o is e = cc
  pick false None is e = go (may_spawn_by f up) e where
    go : (v : Bool) → cond v (Some (Spawn (f.run_count + 1) (first f.queue))) None ≡ Some (Kill run) → (c : Child) × (f.living_child ≡ Some c)
    go true e = cc
    go false e = cc
  pick false (Some c) is e = (c, is)

-- a refused spawn is not ordered again at the same moment
refused-light : (f : Facts) (up run run' : ℕ) (conn : Option ℕ) → weigh_one (due_by (facts_after (Answered (SpawnRefused run')) up (facts_after (Ordered (Spawn run conn)) up f)) up) ≤ 2
refused-light f up run run' conn =
    unless-spawn g up (rw (within-now up) (closed (not g.is_removing && _) (is_newest_within (SECOND * f.definition.throttle_interval) up (Some up)) _ _)) where
      g : Facts
      g = facts_after (Answered (SpawnRefused run')) up (facts_after (Ordered (Spawn run conn)) up f)

      closed : (a t b c : Bool) → (a && not (t || true) && b && c) ≡ false
      closed a true b c = rw (and-false a) refl
      closed a false b c = rw (and-false a) refl

-- ---- of a past

-- by the facts
light : (act : Act) (a : Answer) (f : Facts) (up : ℕ) → is_answer_to a act ≡ true → due_by f up ≡ Some act → weigh_one (due_by (facts_after (Answered a) up (facts_after (Ordered act) up f)) up) < weight act
light (Spawn run conn) (Spawned run' pid) f up fits e = omega (arith, beside-child (facts_after (Answered (Spawned run' pid)) up (facts_after (Ordered (Spawn run conn)) up f)) up (record { run = run'; pid = pid }) refl)
light (Spawn run conn) (SpawnRefused run') f up fits e = omega (arith, refused-light f up run run' conn)
light (Spawn run conn) (Termed run' ok) f up fits e = cc
light (Spawn run conn) (Killed run' ok) f up fits e = cc
light (Term run) (Spawned run' pid) f up fits e = cc
light (Term run) (SpawnRefused run') f up fits e = cc
light (Term run) (Termed run' ok) f up fits e =
    let none : weigh_one (due_by (facts_after (Answered (Termed run' ok)) up (facts_after (Ordered (Term run)) up f)) up) ≡ 0 = termed-light f up run ok e in omega (arith, none)
light (Term run) (Killed run' ok) f up fits e = cc
light (Kill run) (Spawned run' pid) f up fits e = cc
light (Kill run) (SpawnRefused run') f up fits e = cc
light (Kill run) (Termed run' ok) f up fits e = cc
light (Kill run) (Killed run' ok) f up fits e =
    let beside = kill-child f up run e in
    let one : weigh_one (due_by (facts_after (Answered (Killed run' ok)) up (facts_after (Ordered (Kill run)) up f)) up) ≤ 1 = killed-light f up run ok beside.0 beside.1 in omega (arith, one)
light (Close conn) (Spawned run pid) f up fits e = cc
light (Close conn) (SpawnRefused run) f up fits e = cc
light (Close conn) (Termed run ok) f up fits e = cc
light (Close conn) (Killed run ok) f up fits e = cc
light Gone (Spawned run pid) f up fits e = cc
light Gone (SpawnRefused run) f up fits e = cc
light Gone (Termed run ok) f up fits e = cc
light Gone (Killed run ok) f up fits e = cc

-- of a past: if an order was just given and its answer is accepted
pub lighter : (act : Act) (a : Answer) (t : History) → IsLawful (Ordered act ∷ t) → refusal_of (Answered a) (Ordered act ∷ t) ≡ None →
    weigh (acts_of (Answered a ∷ (Ordered act ∷ t))) < weight act
lighter act a t lawful accepted =
    let fits : is_answer_to a act ≡ true = unless-None (is_answer_to a act) Stale accepted in
    let lawful2 : IsLawful (Answered a ∷ (Ordered act ∷ t)) = ((tt, accepted), lawful) in
    let before : due_by (facts_of t) (now t).up ≡ Some act = sym (due-by t lawful.1) ∙ lawful.0.1 in
    let one = facts-after (Ordered act) t lawful lawful.0.0 in
    let two = facts-after (Answered a) (Ordered act ∷ t) lawful2 tt in
    let after : due (Answered a ∷ (Ordered act ∷ t)) ≡ due_by (facts_after (Answered a) (now t).up (facts_after (Ordered act) (now t).up (facts_of t))) (now t).up =
    due-by (Answered a ∷ (Ordered act ∷ t)) lawful2 ∙ ap (λ (f : Facts). due_by f (now t).up) (two ∙ ap (facts_after (Answered a) (now t).up) one) in
    let less = light act a (facts_of t) (now t).up fits before in
    let at_most = weigh-acts (Answered a ∷ (Ordered act ∷ t)) in
    omega (arith, less, at_most, ap weigh_one after)
