-- What one more item of a past changes of its facts.
use Rattle.std.proofs.Common.{◌≡◌, ℕ, suc, ◌+◌, ◌<◌, ◌==◌, Bool, true, false, not, ◌||◌, ◌&&◌, cond, Option, Some, None, is_some, List, [], ◌∷◌, refl, sym, ap, ◌∙◌, arith}
use Rattle.std.specs.List.{filter, list_any}
use Rattle.std.proofs.lemmas.Bool.{eq-eqb, eqb-true, false≢true}
use Rattle.history_model.specs.declared.Reading.{Reading}
use Rattle.history_model.specs.declared.Ended.{Ended}
use Rattle.history_model.specs.declared.Act.{Act}
use Rattle.history_model.specs.declared.reasons.DemandKind.{DemandKind}
use Rattle.history_model.specs.declared.reasons.DemandKind.TheVariants as kinds
use Rattle.history_model.specs.declared.Act.TheVariants.{Spawn, Term, Kill, Close, Gone}
use Rattle.history_model.specs.declared.Ask.TheVariants.{Start, Stop, Unload, Shutdown, Kickstart}
use Rattle.history_model.specs.declared.Answer.TheVariants.{Spawned, SpawnRefused, Termed, Killed}
use Rattle.history_model.specs.Items.{Item, Loaded, Read, Saw, Asked, Came, Left, Ordered, Answered, RunEnded, WaitRefused, History}
use Rattle.history_model.specs.Search.{or_else, first, last, latest, since, in_order}
use Rattle.history_model.specs.Clock.{now, crosses_interval, moments}
use Rattle.history_model.specs.Runs.{runs, child, living, awaited, has_spawned, is_answer_to, has_ended, is_busy}
use Rattle.history_model.specs.Kinds.{is_order, is_spawn_order, order_in, is_some_spawn, is_spawned_answer, is_stop, is_strike, is_term_order, is_term_answer, is_kill_answer, is_stopping_order, is_stopping_act}
use Rattle.history_model.specs.Demands.{fires, fired_since, is_spawned_order, is_pending, kind_in, kind_since, latest_demand, carries, is_left, is_carrying, came_in}
use Rattle.history_model.specs.Levels.{crash_of, last_end, is_crash_end}
use Rattle.history_model.specs.Due.{due}
use Rattle.history_model.specs.Refusals.{IsLawful}
use Rattle.history_model.specs.ByFacts.{settle, fired_by}
use Rattle.history_model.specs.Facts.{facts_of}
use Rattle.history_model.proofs.BooleanLemmas.{and-false, and-true, or-false, or-second}
use Rattle.history_model.proofs.SearchLemmas.{filter-less, list_any-implied, moments-none}
use Rattle.history_model.proofs.LawfulLemmas.{names_run, spawned-named, term-named, termed-named, killed-named, stopping-named, due-Spawn, due-Term, due-Kill, child-not_ended, last_end-ended, awaited-latest, Answers, IsChild, unnamed, eqb-self, eqb-false}
use Rattle.history_model.proofs.RunsLemmas.{unless_settled-more, answered-settles, sound, child-present, spawned-living, ended-living, awaited-present}
use Rattle.history_model.specs.DueByFacts.{is_busy_by}
use Rattle.history_model.specs.declared.Child.{Child}
use Rattle.history_model.specs.declared.LastEnd.{LastEnd}

pub facts-Read : (t : History) (at : Reading) (calendar : Bool) →
    let f = facts_of t in
    let fires = calendar || crosses_interval f.definition.start_interval f.load_up (now t).up at.up in
    facts_of (Read at calendar ∷ t) ≡ fired_by fires (cond calendar kinds.Calendar kinds.Interval) f
facts-Read t at calendar = refl

pub facts-WaitRefused : (t : History) (run : ℕ) → facts_of (WaitRefused run ∷ t) ≡ facts_of t
facts-WaitRefused t run = refl

pub facts-Start : (t : History) →
    let f = facts_of t in
    let fires = not (is_busy_by f) || f.is_stopping in
    facts_of (Asked Start ∷ t) ≡ fired_by fires kinds.Start f
facts-Start t = refl

and-or : (a b c : Bool) → (a && (b || c)) ≡ (a && b || a && c)
and-or true b c = refl
and-or false b c = refl

pub facts-Stop : (t : History) → let f = facts_of t in facts_of (Asked Stop ∷ t) ≡ record f { is_stopping = is_busy_by f }
facts-Stop t = rw (and-true (is_busy t)) refl

pub facts-Unload : (t : History) → let f = facts_of t in facts_of (Asked Unload ∷ t) ≡ record f { is_stopping = is_busy_by f; is_removing = true }
facts-Unload t = rw (and-true (is_busy t)) refl

pub facts-Shutdown : (t : History) → let f = facts_of t in facts_of (Asked Shutdown ∷ t) ≡ record f { is_stopping = is_busy_by f; is_removing = true }
facts-Shutdown t = rw (and-true (is_busy t)) refl

pub facts-Kickstart : (t : History) (kills_first : Bool) →
    let f = facts_of t in
    let fires = kills_first || (not (is_busy_by f) || f.is_stopping) in
    facts_of (Asked (Kickstart kills_first) ∷ t) ≡ record (fired_by fires kinds.Kickstart f) { is_struck = is_busy_by f && kills_first || f.is_struck }
facts-Kickstart t kills_first = λ i. record (fired_by (fires (Asked (Kickstart kills_first)) t) kinds.Kickstart (facts_of t)) {
  is_struck = and-or (is_busy t) kills_first (list_any is_strike (since is_spawn_order t)) i;
}

-- ---- a spawn

-- a spawn order is of a new run, of which nothing is known
pub facts-Spawn : (t : History) → IsLawful t → (run : ℕ) (conn : Option ℕ) → due t ≡ Some (Spawn run conn) →
    let f = facts_of t in
    facts_of (Ordered (Spawn run conn) ∷ t) ≡ record f {
      run_count = run;
      awaited_act = Some (Spawn run conn);
      has_new_demand = false;
      new_demand = None;
      spawn_ordered = Some (now t).up;
      term_ordered = None;
      term_refused = None;
      kill_refused = None;
      is_term_done = false;
      is_kill_done = false;
      is_ordered_to_end = false;
      is_stopping = false;
      is_struck = false;
    }
facts-Spawn t lawful run conn e =
    let fact = due-Spawn t run conn e in
    let next : suc (runs t) ≡ run = (let h : run ≡ runs t + 1 = fact.next in omega arith) in
    let above : runs t < run = omega arith in
    let none = unnamed t lawful run above in
    let unspawned : has_spawned run t ≡ false = list_any-implied (is_spawned_answer run) (names_run run) (spawned-named run) t none in
    let fresh : suc (runs t) ≡ suc (runs t) = refl in
    let new = unnamed t lawful (suc (runs t)) (omega arith) in
    let n : ℕ = suc (runs t) in
    let terms = moments-none (is_term_order n) t (list_any-implied (is_term_order n) (names_run n) (term-named n) t new) in
    let term_refusals = moments-none (is_term_answer false n) t (list_any-implied (is_term_answer false n) (names_run n) (termed-named false n) t new) in
    let kill_refusals = moments-none (is_kill_answer false n) t (list_any-implied (is_kill_answer false n) (names_run n) (killed-named false n) t new) in
    let termed = list_any-implied (is_term_answer true n) (names_run n) (termed-named true n) t new in
    let killed = list_any-implied (is_kill_answer true n) (names_run n) (killed-named true n) t new in
    let received = list_any-implied (is_stopping_order n) (names_run n) (stopping-named n) t new in
    let idle = and-false (is_busy (Ordered (Spawn run conn) ∷ t)) in
    λ i. record (facts_of t) {
      run_count = next i;
      awaited_act = Some (Spawn run conn);
      has_new_demand = false;
      new_demand = None;
      spawn_ordered = Some (now t).up;
      has_demand = not (unspawned i) && is_pending t;
      demand = cond (unspawned i) None (latest_demand t);
      queue = filter (λ c. not (list_any (is_left c) t) && not (unspawned i && carries c conn || list_any (is_carrying t c) t)) (in_order came_in t);
      term_ordered = last (terms i);
      term_refused = first (term_refusals i);
      kill_refused = first (kill_refusals i);
      is_term_done = termed i;
      is_kill_done = killed i;
      is_ordered_to_end = received i;
      is_stopping = idle i;
      is_struck = idle i;
    }

-- ---- a spawn that was answered ok

-- since the last spawn that is now answered ok, and since the last spawn order, is the same
pending-last : (u t : History) (run : ℕ) (conn : Option ℕ) → latest order_in t ≡ Some (Spawn run conn) → has_spawned run u ≡ true →
    fired_since (is_spawned_order u) t ≡ fired_since is_spawn_order t
pending-last u [] run conn e spawned = refl
pending-last u (Ordered act ∷ t) run conn e spawned = let same : act ≡ Spawn run conn = cc in rw (same, spawned) refl
pending-last u (Loaded d at ∷ t) run conn e spawned = ap (λ b. fires (Loaded d at) t || b) (pending-last u t run conn e spawned)
pending-last u (Read at calendar ∷ t) run conn e spawned = ap (λ b. fires (Read at calendar) t || b) (pending-last u t run conn e spawned)
pending-last u (Saw path obs ∷ t) run conn e spawned = ap (λ b. fires (Saw path obs) t || b) (pending-last u t run conn e spawned)
pending-last u (Asked ask ∷ t) run conn e spawned = ap (λ b. fires (Asked ask) t || b) (pending-last u t run conn e spawned)
pending-last u (Came conn' ∷ t) run conn e spawned = pending-last u t run conn e spawned
pending-last u (Left conn' ∷ t) run conn e spawned = pending-last u t run conn e spawned
pending-last u (Answered answer ∷ t) run conn e spawned = pending-last u t run conn e spawned
pending-last u (RunEnded run' how ∷ t) run conn e spawned = pending-last u t run conn e spawned
pending-last u (WaitRefused run' ∷ t) run conn e spawned = pending-last u t run conn e spawned

-- and so is what made the demand
kind-last : (u t : History) (run : ℕ) (conn : Option ℕ) → latest order_in t ≡ Some (Spawn run conn) → has_spawned run u ≡ true →
    kind_since (is_spawned_order u) t ≡ kind_since is_spawn_order t
kind-last u [] run conn e spawned = refl
kind-last u (Ordered act ∷ t) run conn e spawned = let same : act ≡ Spawn run conn = cc in rw (same, spawned) refl
kind-last u (Loaded d at ∷ t) run conn e spawned = ap (λ o. cond (fires (Loaded d at) t) (kind_in (Loaded d at)) o) (kind-last u t run conn e spawned)
kind-last u (Read at calendar ∷ t) run conn e spawned = ap (λ o. cond (fires (Read at calendar) t) (kind_in (Read at calendar)) o) (kind-last u t run conn e spawned)
kind-last u (Saw path obs ∷ t) run conn e spawned = ap (λ o. cond (fires (Saw path obs) t) (kind_in (Saw path obs)) o) (kind-last u t run conn e spawned)
kind-last u (Asked ask ∷ t) run conn e spawned = ap (λ o. cond (fires (Asked ask) t) (kind_in (Asked ask)) o) (kind-last u t run conn e spawned)
kind-last u (Came conn' ∷ t) run conn e spawned = kind-last u t run conn e spawned
kind-last u (Left conn' ∷ t) run conn e spawned = kind-last u t run conn e spawned
kind-last u (Answered answer ∷ t) run conn e spawned = kind-last u t run conn e spawned
kind-last u (RunEnded run' how ∷ t) run conn e spawned = kind-last u t run conn e spawned
kind-last u (WaitRefused run' ∷ t) run conn e spawned = kind-last u t run conn e spawned

-- an order of another run carries what it carried
carrying-older : (run pid c : ℕ) (t s : History) → list_any (names_run run) s ≡ false →
    list_any (is_carrying (Answered (Spawned run pid) ∷ t) c) s ≡ list_any (is_carrying t c) s
carrying-older run pid c t [] none = refl
carrying-older run pid c t (Ordered (Spawn n conn) ∷ s) none =
    let both = or-false (n == run) (list_any (names_run run) s) none in
    let other : (run == n) ≡ false = eqb-false run n (λ same. let yes_it_is : (n == run) ≡ true = eq-eqb n run (sym same) in false≢true (sym both.0 ∙ yes_it_is)) in
    rw (other, carrying-older run pid c t s both.1) refl
carrying-older run pid c t (Ordered (Term n) ∷ s) none = carrying-older run pid c t s (or-false (n == run) (list_any (names_run run) s) none).1
carrying-older run pid c t (Ordered (Kill n) ∷ s) none = carrying-older run pid c t s (or-false (n == run) (list_any (names_run run) s) none).1
carrying-older run pid c t (Ordered (Close n) ∷ s) none = carrying-older run pid c t s none
carrying-older run pid c t (Ordered Gone ∷ s) none = carrying-older run pid c t s none
carrying-older run pid c t (Answered answer ∷ s) none = carrying-older run pid c t s (or-false (names_run run (Answered answer)) (list_any (names_run run) s) none).1
carrying-older run pid c t (RunEnded n how ∷ s) none = carrying-older run pid c t s (or-false (n == run) (list_any (names_run run) s) none).1
carrying-older run pid c t (Loaded d at ∷ s) none = carrying-older run pid c t s none
carrying-older run pid c t (Read at calendar ∷ s) none = carrying-older run pid c t s none
carrying-older run pid c t (Saw path obs ∷ s) none = carrying-older run pid c t s none
carrying-older run pid c t (Asked ask ∷ s) none = carrying-older run pid c t s none
carrying-older run pid c t (Came conn ∷ s) none = carrying-older run pid c t s none
carrying-older run pid c t (Left conn ∷ s) none = carrying-older run pid c t s none
carrying-older run pid c t (WaitRefused n ∷ s) none = carrying-older run pid c t s none

-- the last spawn carries its connection once it is answered ok
carrying-last : (run pid c : ℕ) (conn : Option ℕ) (t s : History) → IsLawful s → latest order_in s ≡ Some (Spawn run conn) → has_spawned run t ≡ false →
    list_any (is_carrying (Answered (Spawned run pid) ∷ t) c) s ≡ (carries c conn || list_any (is_carrying t c) s)
carrying-last run pid c conn t [] lawful e unspawned = cc
carrying-last run pid c conn t (Ordered (Spawn n d) ∷ s) (follows, lawful) e unspawned =
    let same : Spawn n d ≡ Spawn run conn = cc in
    let same_run : n ≡ run = cc in
    let same_conn : d ≡ conn = cc in
    let fact = due-Spawn s n d follows.1 in
    let above : runs s < run = (let next : n ≡ runs s + 1 = fact.next in omega (arith, same_run)) in
    rw (same_run, same_conn, eqb-self run, unspawned, carrying-older run pid c t s (unnamed s lawful run above)) refl
carrying-last run pid c conn t (Ordered (Term n) ∷ s) lawful e unspawned = cc
carrying-last run pid c conn t (Ordered (Kill n) ∷ s) lawful e unspawned = cc
carrying-last run pid c conn t (Ordered (Close n) ∷ s) lawful e unspawned = cc
carrying-last run pid c conn t (Ordered Gone ∷ s) lawful e unspawned = cc
carrying-last run pid c conn t (Answered answer ∷ s) lawful e unspawned = carrying-last run pid c conn t s lawful.1 e unspawned
carrying-last run pid c conn t (RunEnded n how ∷ s) lawful e unspawned = carrying-last run pid c conn t s lawful.1 e unspawned
carrying-last run pid c conn t (Loaded d at ∷ s) lawful e unspawned = carrying-last run pid c conn t s lawful.1 e unspawned
carrying-last run pid c conn t (Read at calendar ∷ s) lawful e unspawned = carrying-last run pid c conn t s lawful.1 e unspawned
carrying-last run pid c conn t (Saw path obs ∷ s) lawful e unspawned = carrying-last run pid c conn t s lawful.1 e unspawned
carrying-last run pid c conn t (Asked ask ∷ s) lawful e unspawned = carrying-last run pid c conn t s lawful.1 e unspawned
carrying-last run pid c conn t (Came d ∷ s) lawful e unspawned = carrying-last run pid c conn t s lawful.1 e unspawned
carrying-last run pid c conn t (Left d ∷ s) lawful e unspawned = carrying-last run pid c conn t s lawful.1 e unspawned
carrying-last run pid c conn t (WaitRefused n ∷ s) lawful e unspawned = carrying-last run pid c conn t s lawful.1 e unspawned

-- what was asked since the last spawn order
abbrev asked_to_stop : History → Bool
asked_to_stop t = list_any is_stop (since is_spawn_order t)

abbrev asked_to_end : History → Bool
asked_to_end t = list_any is_strike (since is_spawn_order t)

pub facts-Spawned : (t : History) → IsLawful t → (run pid : ℕ) (conn : Option ℕ) → awaited t ≡ Some (Spawn run conn) → Answers t (Spawned run pid) →
    let f = facts_of t in
    facts_of (Answered (Spawned run pid) ∷ t) ≡ record f {
      living_child = Some (record { run = run; pid = pid });
      awaited_act = None;
      has_demand = f.has_new_demand;
      demand = f.new_demand;
      spawned_before = true;
      queue = filter (λ c. not (carries c conn)) f.queue;
    }
facts-Spawned t lawful run pid conn order fact =
    let x : Item = Answered (Spawned run pid) in
    let fresh = (sound t lawful).1 run conn order in
    let ordered = awaited-latest t (Spawn run conn) order in
    let one = spawned-living t run pid fresh in
    let settled = answered-settles t (Spawned run pid) fact in
    let spawned : has_spawned run (x ∷ t) ≡ true = rw (eqb-self run) refl in
    let pending = pending-last (x ∷ t) t run conn ordered spawned in
    let demand = kind-last (x ∷ t) t run conn ordered spawned in
    let queue = filter-less (λ c. list_any (is_left c) t) (λ c. carries c conn) (λ c. list_any (is_carrying t c) t) (λ c. list_any (is_carrying (x ∷ t) c) t) (λ c. carrying-last run pid c conn t t lawful ordered fresh.1) (in_order came_in t) in
    let busy_now : is_busy (x ∷ t) ≡ true = ap (λ l. is_some (first l) || is_some_spawn (awaited (x ∷ t))) one in
    let busy_before : is_busy t ≡ true = or-second (is_some (child t)) (is_some_spawn (awaited t)) (ap is_some_spawn order) in
    let busy = busy_now ∙ sym busy_before in
    λ i. record (facts_of t) {
      living_child = first (one i);
      awaited_act = settled i;
      has_demand = pending i;
      demand = demand i;
      spawned_before = true;
      queue = queue i;
      is_stopping = busy i && asked_to_stop t;
      is_struck = busy i && asked_to_end t;
    }

pub facts-SpawnRefused : (t : History) → IsLawful t → (run : ℕ) (conn : Option ℕ) → awaited t ≡ Some (Spawn run conn) → Answers t (SpawnRefused run) →
    let f = facts_of t in
    facts_of (Answered (SpawnRefused run) ∷ t) ≡ record f { awaited_act = None; spawn_refused = Some (now t).up; is_stopping = false; is_struck = false }
facts-SpawnRefused t lawful run conn order fact =
    let fresh = (sound t lawful).1 run conn order in
    let empty : living t ≡ [] = fresh.3 in
    let settled = answered-settles t (SpawnRefused run) fact in
    λ i. record (facts_of t) {
      awaited_act = settled i;
      spawn_refused = Some (now t).up;
      is_stopping = (is_some (first (empty i)) || is_some_spawn (settled i)) && asked_to_stop t;
      is_struck = (is_some (first (empty i)) || is_some_spawn (settled i)) && asked_to_end t;
    }

-- ---- an end

ended_no_spawn : (run : ℕ) (how : Ended) (o : Option Act) → ((n : ℕ) (c : Option ℕ) → o ≡ Some (Spawn n c) → ⊥) → is_some_spawn (settle (RunEnded run how) o) ≡ false
ended_no_spawn run how None excluded = refl
ended_no_spawn run how (Some (Spawn n c)) excluded = absurd (excluded n c refl)
ended_no_spawn run how (Some (Term n)) excluded = elim (n == run) as (λ v. is_some_spawn (cond v None (Some (Term n))) ≡ false) [ true ↦ refl | false ↦ refl ]
ended_no_spawn run how (Some (Kill n)) excluded = elim (n == run) as (λ v. is_some_spawn (cond v None (Some (Kill n))) ≡ false) [ true ↦ refl | false ↦ refl ]
ended_no_spawn run how (Some (Close n)) excluded = refl
ended_no_spawn run how (Some Gone) excluded = refl

-- with a child no spawn is awaited
child-no_spawn : (t : History) → IsLawful t → (c : Child) → child t ≡ Some c → (n : ℕ) (conn : Option ℕ) → awaited t ≡ Some (Spawn n conn) → ⊥
child-no_spawn t lawful c e n conn order =
    let both = sound t lawful in
    let full : living t ≡ c ∷ [] = (child-present t c both.0 e).1 in
    let empty : living t ≡ [] = (both.1 n conn order).3 in
    cc

pub facts-RunEnded : (t : History) → IsLawful t → (run : ℕ) (how : Ended) → IsChild t run →
    let f = facts_of t in
    facts_of (RunEnded run how ∷ t) ≡ record f {
      living_child = None;
      awaited_act = settle (RunEnded run how) f.awaited_act;
      ended = Some (record { run = run; how = how });
      has_crashed = is_crash_end f.is_ordered_to_end how;
      is_stopping = false;
      is_struck = false;
    }
facts-RunEnded t lawful run how fact =
    let present = child-present t (record { run = run; pid = fact.pid }) (sound t lawful).0 fact.stands in
    let number : run ≡ runs t = present.0 in
    let empty = ended-living t run how (record { run = run; pid = fact.pid }) refl present.1 in
    let more = unless_settled-more (RunEnded run how) (since is_order t) (latest order_in t) in
    let no_spawn = ended_no_spawn run how (awaited t) (child-no_spawn t lawful (record { run = run; pid = fact.pid }) fact.stands) in
    let idle : is_busy (RunEnded run how ∷ t) ≡ false = (λ i. is_some (first (empty i)) || is_some_spawn (more i)) ∙ no_spawn in
    λ i. record (facts_of t) {
      living_child = first (empty i);
      awaited_act = more i;
      ended = Some (record { run = run; how = how });
      has_crashed = is_crash_end (list_any (is_stopping_order (number i)) t) how;
      is_stopping = idle i && asked_to_stop t;
      is_struck = idle i && asked_to_end t;
    }

-- ---- TERM and KILL

-- an order for a run that is running changes nothing of the last end
crash-kept : (t : History) (act : Act) (o : Option LastEnd) → ((e : LastEnd) → o ≡ Some e → is_stopping_act e.run act ≡ false) → crash_of (Ordered act ∷ t) o ≡ crash_of t o
crash-kept t act None other = refl
crash-kept t act (Some e) other = rw (other e refl) refl

not_ended-other : (t : History) (run pid : ℕ) → child t ≡ Some (record { run = run; pid = pid }) → (e : LastEnd) → last_end t ≡ Some e → (run == e.run) ≡ false
not_ended-other t run pid present e ended = eqb-false run e.run (λ same.
    let living_on : has_ended run t ≡ false = child-not_ended t (record { run = run; pid = pid }) present in
    let gone : has_ended e.run t ≡ true = last_end-ended t e ended in
    let both : has_ended run t ≡ true = rw same gone in
    false≢true (sym living_on ∙ both))

pub facts-Term : (t : History) → IsLawful t → (run : ℕ) → due t ≡ Some (Term run) →
    let f = facts_of t in
    facts_of (Ordered (Term run) ∷ t) ≡ record f { awaited_act = Some (Term run); term_ordered = or_else f.term_ordered (Some (now t).up); is_ordered_to_end = true }
facts-Term t lawful run e =
    let fact = due-Term t run e in
    let number : run ≡ runs t = (child-present t (record { run = run; pid = fact.pid }) (sound t lawful).0 fact.present).0 in
    let this : (run == runs t) ≡ true = eq-eqb run (runs t) number in
    let crash = crash-kept t (Term run) (last_end t) (not_ended-other t run fact.pid fact.present) in
    λ i. record (facts_of t) {
      awaited_act = Some (Term run);
      term_ordered = last (cond (this i) ((now t).up ∷ moments (is_term_order (runs t)) t) (moments (is_term_order (runs t)) t));
      is_ordered_to_end = this i || list_any (is_stopping_order (runs t)) t;
      has_crashed = crash i;
      is_stopping = (is_some (child t) || is_some_spawn (sym fact.free i)) && asked_to_stop t;
      is_struck = (is_some (child t) || is_some_spawn (sym fact.free i)) && asked_to_end t;
    }

pub facts-Kill : (t : History) → IsLawful t → (run : ℕ) → due t ≡ Some (Kill run) →
    let f = facts_of t in
    facts_of (Ordered (Kill run) ∷ t) ≡ record f { awaited_act = Some (Kill run); is_ordered_to_end = true }
facts-Kill t lawful run e =
    let fact = due-Kill t run e in
    let number : run ≡ runs t = (child-present t (record { run = run; pid = fact.pid }) (sound t lawful).0 fact.present).0 in
    let this : (run == runs t) ≡ true = eq-eqb run (runs t) number in
    let crash = crash-kept t (Kill run) (last_end t) (not_ended-other t run fact.pid fact.present) in
    λ i. record (facts_of t) {
      awaited_act = Some (Kill run);
      is_ordered_to_end = this i || list_any (is_stopping_order (runs t)) t;
      has_crashed = crash i;
      is_stopping = (is_some (child t) || is_some_spawn (sym fact.free i)) && asked_to_stop t;
      is_struck = (is_some (child t) || is_some_spawn (sym fact.free i)) && asked_to_end t;
    }

pub answer_term : (run : ℕ) (ok : Bool) (act : Act) → is_answer_to (Termed run ok) act ≡ true → act ≡ Term run
answer_term run ok (Term n) e = ap Term (eqb-true n run e)
answer_term run ok _ e = cc

pub answer_kill : (run : ℕ) (ok : Bool) (act : Act) → is_answer_to (Killed run ok) act ≡ true → act ≡ Kill run
answer_kill run ok (Kill n) e = ap Kill (eqb-true n run e)
answer_kill run ok _ e = cc

first-cond : (ok : Bool) (u : ℕ) (us : List ℕ) → first (cond (not ok) (u ∷ us) us) ≡ cond ok (first us) (Some u)
first-cond true u us = refl
first-cond false u us = refl

pub facts-Termed : (t : History) → IsLawful t → (run : ℕ) (ok : Bool) → Answers t (Termed run ok) →
    let f = facts_of t in
    facts_of (Answered (Termed run ok) ∷ t) ≡ record f { awaited_act = None; is_term_done = ok || f.is_term_done; term_refused = cond ok f.term_refused (Some (now t).up) }
facts-Termed t lawful run ok fact =
    let act = answer_term run ok fact.act fact.fits in
    let order : awaited t ≡ Some (Term run) = rw (← act) fact.stands in
    let this : (run == runs t) ≡ true = awaited-present t lawful (Term run) order in
    let settled = answered-settles t (Termed run ok) fact in
    λ i. record (facts_of t) {
      awaited_act = settled i;
      is_term_done = (this i && ok) || list_any (is_term_answer true (runs t)) t;
      term_refused = (ap (λ b. first (cond (b && not ok) ((now t).up ∷ moments (is_term_answer false (runs t)) t) (moments (is_term_answer false (runs t)) t))) this ∙ first-cond ok (now t).up (moments (is_term_answer false (runs t)) t)) i;
      is_stopping = ap (λ b. (is_some (child t) || b) && asked_to_stop t) (ap is_some_spawn settled ∙ sym (ap is_some_spawn order)) i;
      is_struck = ap (λ b. (is_some (child t) || b) && asked_to_end t) (ap is_some_spawn settled ∙ sym (ap is_some_spawn order)) i;
    }

pub facts-Killed : (t : History) → IsLawful t → (run : ℕ) (ok : Bool) → Answers t (Killed run ok) →
    let f = facts_of t in
    facts_of (Answered (Killed run ok) ∷ t) ≡ record f { awaited_act = None; is_kill_done = ok || f.is_kill_done; kill_refused = cond ok f.kill_refused (Some (now t).up) }
facts-Killed t lawful run ok fact =
    let act = answer_kill run ok fact.act fact.fits in
    let order : awaited t ≡ Some (Kill run) = rw (← act) fact.stands in
    let this : (run == runs t) ≡ true = awaited-present t lawful (Kill run) order in
    let settled = answered-settles t (Killed run ok) fact in
    λ i. record (facts_of t) {
      awaited_act = settled i;
      is_kill_done = (this i && ok) || list_any (is_kill_answer true (runs t)) t;
      kill_refused = (ap (λ b. first (cond (b && not ok) ((now t).up ∷ moments (is_kill_answer false (runs t)) t) (moments (is_kill_answer false (runs t)) t))) this ∙ first-cond ok (now t).up (moments (is_kill_answer false (runs t)) t)) i;
      is_stopping = ap (λ b. (is_some (child t) || b) && asked_to_stop t) (ap is_some_spawn settled ∙ sym (ap is_some_spawn order)) i;
      is_struck = ap (λ b. (is_some (child t) || b) && asked_to_end t) (ap is_some_spawn settled ∙ sym (ap is_some_spawn order)) i;
    }
