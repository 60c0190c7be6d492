-- What holds of each lawful past: its runs are numbered in turn, and one is running at a time.
use Rattle.std.proofs.Common.{◌≡◌, ◌≢◌, nat_lt, ◌==◌, ◌+◌, ◌^◌, ◌<◌, ℕ, suc, Bool, true, false, not, ◌||◌, ◌&&◌, cond, Option, Some, None, [], ◌∷◌, refl, sym, ap, ◌∙◌, is_some, arith}
use Rattle.std.proofs.lemmas.Bool.{eq-eqb, eqb-true, false≢true}
use Rattle.std.specs.List.{filter, filter_map, list_any}
use Rattle.history_model.specs.declared.Ended.{Ended}
use Rattle.history_model.specs.declared.Act.{Act}
use Rattle.history_model.specs.declared.Act.TheVariants.{Spawn, Term, Kill, Close, Gone}
use Rattle.history_model.specs.declared.Answer.{Answer}
use Rattle.history_model.specs.declared.Answer.TheVariants.{Spawned, SpawnRefused, Termed, Killed}
use Rattle.history_model.specs.declared.Refusal.{Refusal}
use Rattle.history_model.specs.declared.Refusal.TheVariants.{Stale}
use Rattle.history_model.specs.Items.{Item, Loaded, Read, Saw, Asked, Came, Left, Ordered, Answered, RunEnded, WaitRefused, History}
use Rattle.history_model.specs.Search.{first, latest, since}
use Rattle.history_model.specs.Runs.{is_removed, is_answer_to, runs, child, awaited, unless_settled, settles, has_ended, has_spawned}
use Rattle.history_model.specs.Kinds.{is_order, order_in, is_spawned_answer, is_end_of, is_stopping_order, is_term_order, is_term_answer, is_kill_answer, spawned_in}
use Rattle.history_model.specs.Demands.{waiting}
use Rattle.history_model.specs.Levels.{last_end}
use Rattle.history_model.specs.Due.{due, due_beside, may_spawn, may_kill, may_term, is_throttled, is_wanted, has_ever_spawned}
use Rattle.history_model.specs.Refusals.{unless, refusal_of, is_awaited_answer, is_child, IsLawful}
use Rattle.history_model.specs.Clock.{definition_of}
use Rattle.history_model.proofs.BooleanLemmas.{false-and, false-or, not-true, or-false, or-second}
use Rattle.history_model.proofs.SearchLemmas.{list_any-implied}
use Rattle.history_model.specs.declared.Child.{Child}
use Rattle.history_model.specs.declared.LastEnd.{LastEnd}

-- ---- tests on numbers

pub eqb-false : (a b : ℕ) → (a ≡ b → ⊥) → (a == b) ≡ false
eqb-false a b differ = go (a == b) refl where
  go : (v : Bool) → (a == b) ≡ v → (a == b) ≡ false
  go true e = absurd (differ (eqb-true a b e))
  go false e = e

pub eqb-self : (a : ℕ) → (a == a) ≡ true
eqb-self a = eq-eqb a a refl

pub unless-None : (b : Bool) (r : Refusal) → unless b r ≡ None → b ≡ true
unless-None true r e = refl
unless-None false r e = cc

-- ---- which run an item names

abbrev pub names_act : ℕ → Act → Bool
names_act r (Spawn run conn) = run == r
names_act r (Term run) = run == r
names_act r (Kill run) = run == r
names_act r _ = false

abbrev pub names_answer : ℕ → Answer → Bool
names_answer r (Spawned run pid) = run == r
names_answer r (SpawnRefused run) = run == r
names_answer r (Termed run ok) = run == r
names_answer r (Killed run ok) = run == r

abbrev pub names_run : ℕ → Item → Bool
names_run r (Ordered act) = names_act r act
names_run r (Answered answer) = names_answer r answer
names_run r (RunEnded run how) = run == r
names_run r _ = false

pub ended-named : (r : ℕ) (x : Item) → names_run r x ≡ false → is_end_of r x ≡ false
ended-named r (RunEnded run how) h = h
ended-named r _ h = refl

pub spawned-named : (r : ℕ) (x : Item) → names_run r x ≡ false → is_spawned_answer r x ≡ false
spawned-named r (Answered (Spawned run pid)) h = h
spawned-named r _ h = refl

pub stopping-named : (r : ℕ) (x : Item) → names_run r x ≡ false → is_stopping_order r x ≡ false
stopping-named r (Ordered (Term run)) h = h
stopping-named r (Ordered (Kill run)) h = h
stopping-named r _ h = refl

pub term-named : (r : ℕ) (x : Item) → names_run r x ≡ false → is_term_order r x ≡ false
term-named r (Ordered (Term run)) h = h
term-named r _ h = refl

pub termed-named : (accepted : Bool) (r : ℕ) (x : Item) → names_run r x ≡ false → is_term_answer accepted r x ≡ false
termed-named accepted r (Answered (Termed run ok)) h = false-and (run == r) (cond accepted ok (not ok)) h
termed-named accepted r _ h = refl

pub killed-named : (accepted : Bool) (r : ℕ) (x : Item) → names_run r x ≡ false → is_kill_answer accepted r x ≡ false
killed-named accepted r (Answered (Killed run ok)) h = false-and (run == r) (cond accepted ok (not ok)) h
killed-named accepted r _ h = refl

-- ---- what is due

pub record SpawnDue (t : History) (run : ℕ) (conn : Option ℕ) : Type 0 where
  pub next : run ≡ runs t + 1
  pub free : awaited t ≡ None
  pub childless : child t ≡ None
  pub may : may_spawn t ≡ true
  pub carried : conn ≡ first (waiting t)

pub record StopDue (t : History) (run : ℕ) : Type 0 where
  pub pid : ℕ
  pub free : awaited t ≡ None
  pub present : child t ≡ Some (record { run = run; pid = pid })

abbrev pub due_shape : Option Act → Option Child → History → Option Act
due_shape o c t = cond (is_some o) None (due_beside c t)

pub due-Spawn : (t : History) (run : ℕ) (conn : Option ℕ) → due t ≡ Some (Spawn run conn) → SpawnDue t run conn
due-Spawn t run conn e = go (awaited t) (child t) refl refl e where
  spawning : (m : Bool) → may_spawn t ≡ m → awaited t ≡ None → child t ≡ None → cond m (Some (Spawn (runs t + 1) (first (waiting t)))) None ≡ Some (Spawn run conn) → SpawnDue t run conn
  spawning true em ea ec e = record { next = cc; free = ea; childless = ec; may = em; carried = cc }
  spawning false em ea ec e = cc

  stopping : (k m : Bool) (r : ℕ) → cond k (Some (Kill r)) (cond m (Some (Term r)) None) ≡ Some (Spawn run conn) → ⊥
  stopping true m r e = cc
  stopping false true r e = cc
  stopping false false r e = cc

  go : (o : Option Act) (c : Option Child) → awaited t ≡ o → child t ≡ c → due_shape o c t ≡ Some (Spawn run conn) → SpawnDue t run conn
  go (Some act) c ea ec e = cc
  go None None ea ec e = spawning (may_spawn t) refl ea ec e
  go None (Some c) ea ec e = absurd (stopping (may_kill c.run t) (may_term c.run t) c.run e)

pub due-Term : (t : History) (run : ℕ) → due t ≡ Some (Term run) → StopDue t run
due-Term t run e = go (awaited t) (child t) refl refl e where
  spawning : (m : Bool) → cond m (Some (Spawn (runs t + 1) (first (waiting t)))) None ≡ Some (Term run) → ⊥
  spawning true e = cc
  spawning false e = cc

  stopping : (k m : Bool) (r : ℕ) → cond k (Some (Kill r)) (cond m (Some (Term r)) None) ≡ Some (Term run) → r ≡ run
  stopping true m r e = cc
  stopping false true r e = cc
  stopping false false r e = cc

  go : (o : Option Act) (c : Option Child) → awaited t ≡ o → child t ≡ c → due_shape o c t ≡ Some (Term run) → StopDue t run
  go (Some act) c ea ec e = cc
  go None None ea ec e = absurd (spawning (may_spawn t) e)
  go None (Some c) ea ec e = record { pid = c.pid; free = ea; present = rw (← stopping (may_kill c.run t) (may_term c.run t) c.run e) ec }

pub due-Kill : (t : History) (run : ℕ) → due t ≡ Some (Kill run) → StopDue t run
due-Kill t run e = go (awaited t) (child t) refl refl e where
  spawning : (m : Bool) → cond m (Some (Spawn (runs t + 1) (first (waiting t)))) None ≡ Some (Kill run) → ⊥
  spawning true e = cc
  spawning false e = cc

  stopping : (k m : Bool) (r : ℕ) → cond k (Some (Kill r)) (cond m (Some (Term r)) None) ≡ Some (Kill run) → r ≡ run
  stopping true m r e = cc
  stopping false true r e = cc
  stopping false false r e = cc

  go : (o : Option Act) (c : Option Child) → awaited t ≡ o → child t ≡ c → due_shape o c t ≡ Some (Kill run) → StopDue t run
  go (Some act) c ea ec e = cc
  go None None ea ec e = absurd (spawning (may_spawn t) e)
  go None (Some c) ea ec e = record { pid = c.pid; free = ea; present = rw (← stopping (may_kill c.run t) (may_term c.run t) c.run e) ec }

-- a child is closed, and a job gone, by the table
pub due-rest : (t : History) (act : Act) → due t ≡ Some act → ((run : ℕ) (conn : Option ℕ) → act ≢ Spawn run conn) → ((run : ℕ) → act ≢ Term run) → ((run : ℕ) → act ≢ Kill run) → ⊥
due-rest t act e no_spawn no_term no_kill = go (awaited t) (child t) e where
  spawning : (m : Bool) → cond m (Some (Spawn (runs t + 1) (first (waiting t)))) None ≡ Some act → ⊥
  spawning true e = no_spawn _ _ (let h : act ≡ Spawn (runs t + 1) (first (waiting t)) = cc in h)
  spawning false e = cc

  stopping : (k m : Bool) (r : ℕ) → cond k (Some (Kill r)) (cond m (Some (Term r)) None) ≡ Some act → ⊥
  stopping true m r e = no_kill r (let h : act ≡ Kill r = cc in h)
  stopping false true r e = no_term r (let h : act ≡ Term r = cc in h)
  stopping false false r e = cc

  go : (o : Option Act) (c : Option Child) → due_shape o c t ≡ Some act → ⊥
  go (Some a) c e = cc
  go None None e = spawning (may_spawn t) e
  go None (Some c) e = stopping (may_kill c.run t) (may_term c.run t) c.run e

-- ---- the child and the awaited order are named by the past

child_started : (p : Child → Bool) (t : History) (c : Child) → first (filter p (filter_map spawned_in t)) ≡ Some c → (has_spawned c.run t ≡ true) × (p c ≡ true)
child_started p [] c e = cc
child_started p (Answered (Spawned run pid) ∷ t) c e = go (child_started p t c) (p (record { run = run; pid = pid })) refl e where
  go : (first (filter p (filter_map spawned_in t)) ≡ Some c → (has_spawned c.run t ≡ true) × (p c ≡ true)) → (b : Bool) → p (record { run = run; pid = pid }) ≡ b → first (cond b ((record { run = run; pid = pid }) ∷ filter p (filter_map spawned_in t)) (filter p (filter_map spawned_in t))) ≡ Some c → ((run == c.run) || has_spawned c.run t ≡ true) × (p c ≡ true)
  go hypothesis true eb e' =
      let same : (record { run = run; pid = pid }) ≡ c = cc in
      let number : run ≡ c.run = ap (λ (d : Child). d.run) same in
      let hit : (run == c.run) ≡ true = eq-eqb run c.run number in
      (rw hit refl, rw (← same) eb)
  go hypothesis false eb e' = let rest = hypothesis e' in (or-second (run == c.run) (has_spawned c.run t) rest.0, rest.1)
child_started p (Answered (SpawnRefused run) ∷ t) c e = child_started p t c e
child_started p (Answered (Termed run ok) ∷ t) c e = child_started p t c e
child_started p (Answered (Killed run ok) ∷ t) c e = child_started p t c e
child_started p (Loaded d at ∷ t) c e = child_started p t c e
child_started p (Read at calendar ∷ t) c e = child_started p t c e
child_started p (Saw path obs ∷ t) c e = child_started p t c e
child_started p (Asked ask ∷ t) c e = child_started p t c e
child_started p (Came conn ∷ t) c e = child_started p t c e
child_started p (Left conn ∷ t) c e = child_started p t c e
child_started p (Ordered act ∷ t) c e = child_started p t c e
child_started p (RunEnded run how ∷ t) c e = child_started p t c e
child_started p (WaitRefused run ∷ t) c e = child_started p t c e

-- a child's spawn was answered ok, and it has not ended
pub child-spawned : (t : History) (c : Child) → child t ≡ Some c → has_spawned c.run t ≡ true
child-spawned t c e = (child_started (λ d. not (has_ended d.run t)) t c e).0

pub child-not_ended : (t : History) (c : Child) → child t ≡ Some c → has_ended c.run t ≡ false
child-not_ended t c e = not-true (has_ended c.run t) (child_started (λ d. not (has_ended d.run t)) t c e).1

-- if no item names the run, it is not the child
pub unnamed-child : (t : History) (r : ℕ) (c : Child) → list_any (names_run r) t ≡ false → child t ≡ Some c → (c.run == r) ≡ false
unnamed-child t r c none e = eqb-false c.run r (λ same.
    let spawned : has_spawned c.run t ≡ true = child-spawned t c e in
    let never : has_spawned r t ≡ false = list_any-implied (is_spawned_answer r) (names_run r) (spawned-named r) t none in
    let both : has_spawned r t ≡ true = rw (← same) spawned in
    false≢true (sym never ∙ both))

latest_named : (t : History) (r : ℕ) (act : Act) → list_any (names_run r) t ≡ false → latest order_in t ≡ Some act → names_act r act ≡ false
latest_named [] r act none e = cc
latest_named (Ordered a ∷ t) r act none e =
    let same : a ≡ act = cc in
    rw (← same) (or-false (names_act r a) (list_any (names_run r) t) none).0
latest_named (Loaded d at ∷ t) r act none e = latest_named t r act none e
latest_named (Read at calendar ∷ t) r act none e = latest_named t r act none e
latest_named (Saw path obs ∷ t) r act none e = latest_named t r act none e
latest_named (Asked ask ∷ t) r act none e = latest_named t r act none e
latest_named (Came conn ∷ t) r act none e = latest_named t r act none e
latest_named (Left conn ∷ t) r act none e = latest_named t r act none e
latest_named (Answered answer ∷ t) r act none e = latest_named t r act (or-false (names_answer r answer) (list_any (names_run r) t) none).1 e
latest_named (RunEnded run how ∷ t) r act none e = latest_named t r act (or-false (run == r) (list_any (names_run r) t) none).1 e
latest_named (WaitRefused run ∷ t) r act none e = latest_named t r act none e

unless_settled_is : (s : History) (o : Option Act) (act : Act) → unless_settled s o ≡ Some act → o ≡ Some act
unless_settled_is s None act e = cc
unless_settled_is s (Some a) act e = go (list_any (λ x. settles x a) s) e where
  go : (b : Bool) → cond b None (Some a) ≡ Some act → Some a ≡ Some act
  go true e' = cc
  go false e' = e'

pub awaited-latest : (t : History) (act : Act) → awaited t ≡ Some act → latest order_in t ≡ Some act
awaited-latest t act e = unless_settled_is (since is_order t) (latest order_in t) act e

-- if no item names the run, the awaited order is not for it
pub unnamed-awaited : (t : History) (r : ℕ) (act : Act) → list_any (names_run r) t ≡ false → awaited t ≡ Some act → names_act r act ≡ false
unnamed-awaited t r act none e = latest_named t r act none (awaited-latest t act e)

answer_named : (answer : Answer) (act : Act) (r : ℕ) → is_answer_to answer act ≡ true → names_act r act ≡ false → names_answer r answer ≡ false
answer_named (Spawned run pid) (Spawn n conn) r e none = rw (← eqb-true n run e) none
answer_named (SpawnRefused run) (Spawn n conn) r e none = rw (← eqb-true n run e) none
answer_named (Termed run ok) (Term n) r e none = rw (← eqb-true n run e) none
answer_named (Killed run ok) (Kill n) r e none = rw (← eqb-true n run e) none
answer_named (Spawned run pid) _ r e none = cc
answer_named (SpawnRefused run) _ r e none = cc
answer_named (Termed run ok) _ r e none = cc
answer_named (Killed run ok) _ r e none = cc

-- ---- lawful pasts

-- an accepted answer is that to the awaited order
pub record Answers (t : History) (answer : Answer) : Type 0 where
  pub act : Act
  pub stands : awaited t ≡ Some act
  pub fits : is_answer_to answer act ≡ true

pub Answers-from : (t : History) (answer : Answer) → refusal_of (Answered answer) t ≡ None → Answers t answer
Answers-from t answer e = go (awaited t) refl (unless-None (is_awaited_answer (awaited t) answer) Stale e) where
  go : (o : Option Act) → awaited t ≡ o → is_awaited_answer o answer ≡ true → Answers t answer
  go None eo fits = cc
  go (Some act) eo fits = record { act = act; stands = eo; fits = fits }

pub record IsChild (t : History) (run : ℕ) : Type 0 where
  pub pid : ℕ
  pub stands : child t ≡ Some (record { run = run; pid = pid })

pub IsChild-from : (t : History) (run : ℕ) → unless (is_child (child t) run) Stale ≡ None → IsChild t run
IsChild-from t run e = go (child t) refl (unless-None (is_child (child t) run) Stale e) where
  go : (o : Option Child) → child t ≡ o → is_child o run ≡ true → IsChild t run
  go None eo fits = cc
  go (Some c) eo fits =
      let same : c.run ≡ run = eqb-true c.run run fits in
      record { pid = c.pid; stands = rw (← same) eo }

-- no item names a run that was not ordered yet
pub unnamed : (t : History) → IsLawful t → (r : ℕ) → runs t < r → list_any (names_run r) t ≡ false
unnamed [] lawful r above = refl
unnamed (Ordered (Spawn run conn) ∷ t) (follows, lawful) r above =
    let fact = due-Spawn t run conn follows.1 in
    let below : runs t < r = omega (arith, above) in
    let differ : run ≡ r → ⊥ = λ same. let order : suc (runs t) < r = above in let next : run ≡ runs t + 1 = fact.next in omega (arith, same) in
    false-or (run == r) (list_any (names_run r) t) (eqb-false run r differ) (unnamed t lawful r below)
unnamed (Ordered (Term run) ∷ t) (follows, lawful) r above =
    let fact = due-Term t run follows.1 in
    let none = unnamed t lawful r above in
    false-or (run == r) (list_any (names_run r) t) (unnamed-child t r (record { run = run; pid = fact.pid }) none fact.present) none
unnamed (Ordered (Kill run) ∷ t) (follows, lawful) r above =
    let fact = due-Kill t run follows.1 in
    let none = unnamed t lawful r above in
    false-or (run == r) (list_any (names_run r) t) (unnamed-child t r (record { run = run; pid = fact.pid }) none fact.present) none
unnamed (Ordered (Close conn) ∷ t) (follows, lawful) r above = unnamed t lawful r above
unnamed (Ordered Gone ∷ t) (follows, lawful) r above = unnamed t lawful r above
unnamed (Answered answer ∷ t) (follows, lawful) r above =
    let none = unnamed t lawful r above in
    let fact = Answers-from t answer follows.1 in
    false-or (names_answer r answer) (list_any (names_run r) t) (answer_named answer fact.act r fact.fits (unnamed-awaited t r fact.act none fact.stands)) none
unnamed (RunEnded run how ∷ t) (follows, lawful) r above =
    let none = unnamed t lawful r above in
    let fact = IsChild-from t run follows.1 in
    false-or (run == r) (list_any (names_run r) t) (unnamed-child t r (record { run = run; pid = fact.pid }) none fact.stands) none
unnamed (Loaded d at ∷ t) (follows, lawful) r above = unnamed t lawful r above
unnamed (Read at calendar ∷ t) (follows, lawful) r above = unnamed t lawful r above
unnamed (Saw path obs ∷ t) (follows, lawful) r above = unnamed t lawful r above
unnamed (Asked ask ∷ t) (follows, lawful) r above = unnamed t lawful r above
unnamed (Came conn ∷ t) (follows, lawful) r above = unnamed t lawful r above
unnamed (Left conn ∷ t) (follows, lawful) r above = unnamed t lawful r above
unnamed (WaitRefused run ∷ t) (follows, lawful) r above = unnamed t lawful r above

-- the last end is an end of its run
pub last_end-ended : (t : History) (e : LastEnd) → last_end t ≡ Some e → has_ended e.run t ≡ true
last_end-ended [] e h = cc
last_end-ended (RunEnded run how ∷ t) e h =
    let same : (record { run = run; how = how }) ≡ e = cc in
    let number : (run == e.run) ≡ true = eq-eqb run e.run (ap (λ (d : LastEnd). d.run) same) in
    rw number refl
last_end-ended (Ordered act ∷ t) e h = last_end-ended t e h
last_end-ended (Answered answer ∷ t) e h = last_end-ended t e h
last_end-ended (Loaded d at ∷ t) e h = last_end-ended t e h
last_end-ended (Read at calendar ∷ t) e h = last_end-ended t e h
last_end-ended (Saw path obs ∷ t) e h = last_end-ended t e h
last_end-ended (Asked ask ∷ t) e h = last_end-ended t e h
last_end-ended (Came conn ∷ t) e h = last_end-ended t e h
last_end-ended (Left conn ∷ t) e h = last_end-ended t e h
last_end-ended (WaitRefused run ∷ t) e h = last_end-ended t e h

-- a KILL that is due may be given
pub due-Kill-may : (t : History) (run : ℕ) → due t ≡ Some (Kill run) → may_kill run t ≡ true
due-Kill-may t run e = go (awaited t) (child t) e where
  spawning : (m : Bool) → cond m (Some (Spawn (runs t + 1) (first (waiting t)))) None ≡ Some (Kill run) → ⊥
  spawning true e = cc
  spawning false e = cc

  stopping : (k m : Bool) (r : ℕ) → cond k (Some (Kill r)) (cond m (Some (Term r)) None) ≡ Some (Kill run) → (r ≡ run) × (k ≡ true)
  stopping true m r e = (cc, refl)
  stopping false true r e = cc
  stopping false false r e = cc

  go : (o : Option Act) (c : Option Child) → due_shape o c t ≡ Some (Kill run) → may_kill run t ≡ true
  go (Some act) c e = cc
  go None None e = absurd (spawning (may_spawn t) e)
  go None (Some c) e = let both = stopping (may_kill c.run t) (may_term c.run t) c.run e in rw (← both.0) both.1

-- a job that may spawn is not throttled
pub unthrottled : (t : History) → may_spawn t ≡ true → is_throttled t ≡ false
unthrottled t may = go (not (is_removed t)) (is_wanted t) (is_throttled t) (not ((definition_of t).launch_only_once && has_ever_spawned t)) (nat_lt (runs t) (2 ^ 63)) may where
  go : (r w h o n : Bool) → (r && w && not h && o && n) ≡ true → h ≡ false
  go true true true o n e = cc
  go true false true o n e = cc
  go false w true o n e = cc
  go r w false o n e = refl
