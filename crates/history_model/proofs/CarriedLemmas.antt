-- Connections are carried once, and in the order in which they came.
use Rattle.std.proofs.Common.{◌≡◌, ◌≢◌, ℕ, ◌+◌, ◌<◌, ◌≤◌, ◌==◌, Bool, true, false, not, cond, Option, Some, None, List, [], ◌∷◌, ◌++◌, refl, sym, ap, subst, ◌∙◌, arith}
use Rattle.std.proofs.lemmas.Bool.{eq-eqb, false≢true}
use Rattle.std.proofs.lemmas.Bool.Decides.{nat_tests}
use Rattle.std.specs.List.{filter, filter_map, cons_option, list_any, AllByRecursion}
use Rattle.history_model.specs.declared.Act.TheVariants.{Spawn, Term, Kill, Close, Gone}
use Rattle.history_model.specs.declared.Answer.TheVariants.{Spawned, SpawnRefused, Termed, Killed}
use Rattle.history_model.specs.Items.{Item, Loaded, Read, Saw, Asked, Came, Left, Ordered, Answered, RunEnded, WaitRefused, History}
use Rattle.history_model.specs.Search.{first, latest, since}
use Rattle.history_model.specs.Runs.{has_spawned, runs, awaited}
use Rattle.history_model.specs.Kinds.{is_order, order_in, is_spawned_answer}
use Rattle.history_model.specs.Demands.{came_in, carries, waiting}
use Rattle.history_model.specs.Refusals.{IsLawful, is_number_used}
use Rattle.history_model.specs.Facts.{Facts}
use Rattle.history_model.specs.ByFacts.{settle}
use Rattle.history_model.specs.MachineLaws.{carried_by, carried, IsFalling}
use Rattle.history_model.proofs.BooleanLemmas.{or-false}
use Rattle.history_model.proofs.SearchLemmas.{list_any-implied}
use Rattle.history_model.proofs.LawfulLemmas.{eqb-false, eqb-self, names_run, spawned-named, due-Spawn, unnamed, awaited-latest, Answers, Answers-from}
use Rattle.history_model.proofs.RunsLemmas.{sound, answered-settles, unless_settled-more, spawned-awaited, kept_awaited}
use Rattle.history_model.proofs.ConnectionLemmas.{IsNew-from, facts-Came, facts-Left}
use Rattle.history_model.proofs.FactsLemmas.{facts-Spawn, facts-Spawned}
use Rattle.history_model.proofs.StepLemmas.{all-implied}
use Rattle.history_model.proofs.OneLabelLemmas.{all-filter}

-- ---- which orders carry

carried-older : (run pid : ℕ) (t s : History) → list_any (names_run run) s ≡ false → filter_map (carried_by (Answered (Spawned run pid) ∷ t)) s ≡ filter_map (carried_by t) s
carried-older run pid t [] none = refl
carried-older run pid t (Ordered (Spawn n conn) ∷ s) none =
    let both = or-false (n == run) (list_any (names_run run) s) none in
    let other : (run == n) ≡ false = eqb-false run n (λ same. let yes_it_is : (n == run) ≡ true = eq-eqb n run (sym same) in false≢true (sym both.0 ∙ yes_it_is)) in
    rw (other, carried-older run pid t s both.1) refl
carried-older run pid t (Ordered (Term n) ∷ s) none = carried-older run pid t s (or-false (n == run) (list_any (names_run run) s) none).1
carried-older run pid t (Ordered (Kill n) ∷ s) none = carried-older run pid t s (or-false (n == run) (list_any (names_run run) s) none).1
carried-older run pid t (Ordered (Close n) ∷ s) none = carried-older run pid t s none
carried-older run pid t (Ordered Gone ∷ s) none = carried-older run pid t s none
carried-older run pid t (Answered answer ∷ s) none = carried-older run pid t s (or-false (names_run run (Answered answer)) (list_any (names_run run) s) none).1
carried-older run pid t (RunEnded n how ∷ s) none = carried-older run pid t s (or-false (n == run) (list_any (names_run run) s) none).1
carried-older run pid t (Loaded d at ∷ s) none = carried-older run pid t s none
carried-older run pid t (Read at calendar ∷ s) none = carried-older run pid t s none
carried-older run pid t (Saw path obs ∷ s) none = carried-older run pid t s none
carried-older run pid t (Asked ask ∷ s) none = carried-older run pid t s none
carried-older run pid t (Came conn ∷ s) none = carried-older run pid t s none
carried-older run pid t (Left conn ∷ s) none = carried-older run pid t s none
carried-older run pid t (WaitRefused n ∷ s) none = carried-older run pid t s none

-- a spawn that is answered ok adds its connection
carried-last : (run pid : ℕ) (conn : Option ℕ) (t s : History) → IsLawful s → latest order_in s ≡ Some (Spawn run conn) → has_spawned run t ≡ false →
    filter_map (carried_by (Answered (Spawned run pid) ∷ t)) s ≡ cons_option conn (filter_map (carried_by t) s)
carried-last run pid conn t [] lawful e unspawned = cc
carried-last run pid conn t (Ordered (Spawn n d) ∷ s) (follows, lawful) e unspawned =
    let same_run : n ≡ run = cc in
    let same_conn : d ≡ conn = cc in
    let fact = due-Spawn s n d follows.1 in
    let above : runs s < run = (let next : n ≡ runs s + 1 = fact.next in omega (arith, same_run)) in
    rw (same_run, same_conn, eqb-self run, unspawned, carried-older run pid t s (unnamed s lawful run above)) refl
carried-last run pid conn t (Ordered (Term n) ∷ s) lawful e unspawned = cc
carried-last run pid conn t (Ordered (Kill n) ∷ s) lawful e unspawned = cc
carried-last run pid conn t (Ordered (Close n) ∷ s) lawful e unspawned = cc
carried-last run pid conn t (Ordered Gone ∷ s) lawful e unspawned = cc
carried-last run pid conn t (Answered answer ∷ s) lawful e unspawned = carried-last run pid conn t s lawful.1 e unspawned
carried-last run pid conn t (RunEnded n how ∷ s) lawful e unspawned = carried-last run pid conn t s lawful.1 e unspawned
carried-last run pid conn t (Loaded d at ∷ s) lawful e unspawned = carried-last run pid conn t s lawful.1 e unspawned
carried-last run pid conn t (Read at calendar ∷ s) lawful e unspawned = carried-last run pid conn t s lawful.1 e unspawned
carried-last run pid conn t (Saw path obs ∷ s) lawful e unspawned = carried-last run pid conn t s lawful.1 e unspawned
carried-last run pid conn t (Asked ask ∷ s) lawful e unspawned = carried-last run pid conn t s lawful.1 e unspawned
carried-last run pid conn t (Came d ∷ s) lawful e unspawned = carried-last run pid conn t s lawful.1 e unspawned
carried-last run pid conn t (Left d ∷ s) lawful e unspawned = carried-last run pid conn t s lawful.1 e unspawned
carried-last run pid conn t (WaitRefused n ∷ s) lawful e unspawned = carried-last run pid conn t s lawful.1 e unspawned

carried-Spawned : (t : History) → IsLawful t → (run pid : ℕ) (conn : Option ℕ) → awaited t ≡ Some (Spawn run conn) → carried (Answered (Spawned run pid) ∷ t) ≡ cons_option conn (carried t)
carried-Spawned t lawful run pid conn order =
    let fresh = (sound t lawful).1 run conn order in
    carried-last run pid conn t t lawful (awaited-latest t (Spawn run conn) order) fresh.1

carried-Spawn : (t : History) → IsLawful t → (run : ℕ) (conn : Option ℕ) → run ≡ runs t + 1 → carried (Ordered (Spawn run conn) ∷ t) ≡ carried t
carried-Spawn t lawful run conn next =
    let none = unnamed t lawful run (omega (arith, next)) in
    let unspawned : has_spawned run t ≡ false = list_any-implied (is_spawned_answer run) (names_run run) (spawned-named run) t none in
    rw unspawned refl

-- ---- rising lists

abbrev pub Above : ℕ → List ℕ → Type 0
Above d ws = AllByRecursion (λ w. d < w) ws

abbrev pub Below : ℕ → List ℕ → Type 0
Below c ds = AllByRecursion (λ d. d < c) ds

abbrev pub IsRising : List ℕ → Type 0
IsRising [] = Unit {0}
IsRising (c ∷ cs) = Above c cs × IsRising cs

all-last : (P : ℕ → Type 0) (c : ℕ) → P c → (xs : List ℕ) → AllByRecursion P xs → AllByRecursion P (xs ++ c ∷ [])
all-last P c holds [] all = (holds, tt)
all-last P c holds (x ∷ xs) all = (all.0, all-last P c holds xs all.1)

rising-last : (c : ℕ) (xs : List ℕ) → Below c xs → IsRising xs → IsRising (xs ++ c ∷ [])
rising-last c [] below rising = (tt, tt)
rising-last c (x ∷ xs) below rising = (all-last (λ w. x < w) c below.0 xs rising.0, rising-last c xs below.1 rising.1)

rising-filter : (p : ℕ → Bool) (xs : List ℕ) → IsRising xs → IsRising (filter p xs)
rising-filter p [] rising = tt
rising-filter p (x ∷ xs) rising = go (rising-filter p xs rising.1) (p x) where
  go : IsRising (filter p xs) → (b : Bool) → IsRising (cond b (x ∷ filter p xs) (filter p xs))
  go rest true = (all-filter (λ w. x < w) p xs rising.0, rest)
  go rest false = rest

first-least : (c : ℕ) (xs : List ℕ) → IsRising xs → Some c ≡ first xs → AllByRecursion (λ w. c ≤ w) xs
first-least c [] rising e = tt
first-least c (x ∷ xs) rising e =
    let same : c ≡ x = cc in
    (omega (arith, same), all-implied (λ w. x < w) (λ w. c ≤ w) (λ w less. omega (arith, less, same)) xs rising.0)

-- without the least one all are above it
above-rest : (c : ℕ) (xs : List ℕ) → AllByRecursion (λ w. c ≤ w) xs → Above c (filter (λ w. not (c == w)) xs)
above-rest c [] all = tt
above-rest c (x ∷ xs) all = go (above-rest c xs all.1) (c == x) refl where
  go : Above c (filter (λ w. not (c == w)) xs) → (b : Bool) → (c == x) ≡ b → Above c (cond (not b) (x ∷ filter (λ w. not (c == w)) xs) (filter (λ w. not (c == w)) xs))
  go rest true e = rest
  go rest false e =
      let differ : c ≢ x = λ same. false≢true (sym e ∙ eq-eqb c x same) in
      let least : c ≤ x = all.0 in
      (omega (arith, differ, least), rest)

-- ---- the queue of a lawful past

-- the order carries a connection that came, above each that was carried and none that waits
pub record Carries (t : History) (c : ℕ) : Type 0 where
  pub older : Below c (carried t)
  pub oldest : AllByRecursion (λ w. c ≤ w) (waiting t)
  pub known : (d : ℕ) → is_number_used (latest came_in t) d ≡ false → c < d

pub record InTurn (t : History) : Type 0 where
  pub falls : IsFalling (carried t)
  pub rises : IsRising (waiting t)
  pub between : AllByRecursion (λ d. Above d (waiting t)) (carried t)
  pub next : (run c : ℕ) → awaited t ≡ Some (Spawn run (Some c)) → Carries t c
  pub new : (c : ℕ) → is_number_used (latest came_in t) c ≡ false → Below c (carried t) × Below c (waiting t)

-- what leaves the queue as it is
same_queue : (t u : History) → carried u ≡ carried t → waiting u ≡ waiting t → latest came_in u ≡ latest came_in t →
    ((run c : ℕ) → awaited u ≡ Some (Spawn run (Some c)) → Carries t c) → InTurn t → InTurn u
same_queue t u same_carried same_waiting same_last order queue = record {
  falls = rw same_carried queue.falls;
  rises = rw same_waiting queue.rises;
  between = rw (same_carried, same_waiting) queue.between;
  next = λ run c e. let old = order run c e in record {
    older = rw same_carried old.older;
    oldest = rw same_waiting old.oldest;
    known = λ d unused. old.known d (rw (← same_last) unused);
  };
  new = λ c e. rw (same_carried, same_waiting) (queue.new c (rw (← same_last) e));
}

pub used-above : (conn c : ℕ) → is_number_used (Some conn) c ≡ false → conn < c
used-above conn c e = grind (arith, nat_tests, e)

in_turn-Came : (t : History) (conn : ℕ) → IsLawful (Came conn ∷ t) → InTurn t → InTurn (Came conn ∷ t)
in_turn-Came t conn lawful queue =
    let unused = IsNew-from t conn lawful.0.1 in
    let fresh = queue.new conn unused in
    let grown : waiting (Came conn ∷ t) ≡ waiting t ++ conn ∷ [] = ap (λ (f : Facts). f.queue) (facts-Came t lawful.1 conn lawful.0.1 0) in
    record {
      falls = queue.falls;
      rises = rw grown (rising-last conn (waiting t) fresh.1 queue.rises);
      between = rw grown (both (carried t) fresh.0 queue.between);
      next = λ run c e. let old = queue.next run c e in let before : c < conn = old.known conn unused in record {
        older = old.older;
        oldest = rw grown (all-last (λ w. c ≤ w) conn (omega (arith, before)) (waiting t) old.oldest);
        known = λ d used. let more = used-above conn d used in omega (arith, before, more);
      };
      new = λ c e. (
        all-implied (λ d. d < conn) (λ d. d < c) (λ d less. let more = used-above conn c e in omega (arith, less, more)) (carried t) fresh.0,
        rw grown (all-last (λ w. w < c) conn (used-above conn c e) (waiting t)
            (all-implied (λ w. w < conn) (λ w. w < c) (λ w less. let more = used-above conn c e in omega (arith, less, more)) (waiting t) fresh.1)),
      );
    } where
      both : (ds : List ℕ) → Below conn ds → AllByRecursion (λ d. Above d (waiting t)) ds → AllByRecursion (λ d. Above d (waiting t ++ conn ∷ [])) ds
      both [] below all = tt
      both (d ∷ ds) below all = (all-last (λ w. d < w) conn below.0 (waiting t) all.0, both ds below.1 all.1)

in_turn-Left : (t : History) (conn : ℕ) → InTurn t → InTurn (Left conn ∷ t)
in_turn-Left t conn queue =
    let p : ℕ → Bool = λ c. not (conn == c) in
    let shrunk : waiting (Left conn ∷ t) ≡ filter (λ c. not (conn == c)) (waiting t) = ap (λ (f : Facts). f.queue) (facts-Left t conn 0) in
    record {
      falls = queue.falls;
      rises = rw shrunk (rising-filter p (waiting t) queue.rises);
      between = rw shrunk (all-implied (λ d. Above d (waiting t)) (λ d. Above d (filter p (waiting t))) (λ d above. all-filter (λ w. d < w) p (waiting t) above) (carried t) queue.between);
      next = λ run c e. let old = queue.next run c e in record { older = old.older; oldest = rw shrunk (all-filter (λ w. c ≤ w) p (waiting t) old.oldest); known = old.known };
      new = λ c e. let old = queue.new c e in (old.0, rw shrunk (all-filter (λ w. w < c) p (waiting t) old.1));
    }

in_turn-Spawn : (t : History) (run : ℕ) (conn : Option ℕ) → IsLawful (Ordered (Spawn run conn) ∷ t) → InTurn t → InTurn (Ordered (Spawn run conn) ∷ t)
in_turn-Spawn t run conn lawful queue =
    let fact = due-Spawn t run conn lawful.0.1 in
    same_queue t (Ordered (Spawn run conn) ∷ t) (carried-Spawn t lawful.1 run conn fact.next)
    (ap (λ (f : Facts). f.queue) (facts-Spawn t lawful.1 run conn lawful.0.1)) refl
    (λ n c e. let same : conn ≡ Some c = cc in
    let it = first_of c (waiting t) (sym same ∙ fact.carried) queue.rises queue.between (λ d unused. (queue.new d unused).1) in
    record { older = it.0; oldest = it.1; known = it.2 }) queue where
      older : (c : ℕ) (w : ℕ) (ws ds : List ℕ) → c ≡ w → AllByRecursion (λ d. Above d (w ∷ ws)) ds → Below c ds
      older c w ws [] same all = tt
      older c w ws (d ∷ ds) same all = let less : d < w = all.0.0 in (omega (arith, less, same), older c w ws ds same all.1)

      first_of : (c : ℕ) (ws : List ℕ) → Some c ≡ first ws → IsRising ws → AllByRecursion (λ d. Above d ws) (carried t) → ((d : ℕ) → is_number_used (latest came_in t) d ≡ false → Below d ws) →
          Below c (carried t) × AllByRecursion (λ w. c ≤ w) ws × ((d : ℕ) → is_number_used (latest came_in t) d ≡ false → c < d)
      first_of c [] e rising between new = cc
      first_of c (w ∷ ws) e rising between new =
          let same : c ≡ w = cc in
          (older c w ws (carried t) same between, first-least c (w ∷ ws) rising e, λ d unused. let less : w < d = (new d unused).0 in omega (arith, less, same))

in_turn-Spawned : (t : History) (run pid : ℕ) (conn : Option ℕ) → IsLawful (Answered (Spawned run pid) ∷ t) → awaited t ≡ Some (Spawn run conn) → Answers t (Spawned run pid) → InTurn t →
    InTurn (Answered (Spawned run pid) ∷ t)
in_turn-Spawned t run pid conn lawful order fact queue = go conn order (carried-Spawned t lawful.1 run pid conn order) (ap (λ (f : Facts). f.queue) (facts-Spawned t lawful.1 run pid conn order fact)) where
  settled : awaited (Answered (Spawned run pid) ∷ t) ≡ None
  settled = answered-settles t (Spawned run pid) fact

  go : (o : Option ℕ) → awaited t ≡ Some (Spawn run o) → carried (Answered (Spawned run pid) ∷ t) ≡ cons_option o (carried t) →
      waiting (Answered (Spawned run pid) ∷ t) ≡ filter (λ c. not (carries c o)) (waiting t) → InTurn (Answered (Spawned run pid) ∷ t)
  go None e same_carried kept = same_queue t (Answered (Spawned run pid) ∷ t) same_carried (kept ∙ all_kept (waiting t)) refl (λ n c h. cc settled) queue where
    all_kept : (xs : List ℕ) → filter (λ c. not (carries c None)) xs ≡ xs
    all_kept [] = refl
    all_kept (x ∷ xs) = ap (λ (l : List ℕ). x ∷ l) (all_kept xs)
  go (Some c) e same_carried kept =
      let it = queue.next run c e in
      let p : ℕ → Bool = λ w. not (c == w) in
      record {
        falls = rw same_carried (it.older, queue.falls);
        rises = rw kept (rising-filter p (waiting t) queue.rises);
        between =
            let spread : AllByRecursion (λ d. Above d (filter (λ w. not (c == w)) (waiting t))) (c ∷ carried t) =
            (above-rest c (waiting t) it.oldest, all-implied (λ d. Above d (waiting t)) (λ d. Above d (filter (λ w. not (c == w)) (waiting t))) (λ d above. all-filter (λ w. d < w) (λ w. not (c == w)) (waiting t) above) (carried t) queue.between) in
            subst (λ (ws : List ℕ). AllByRecursion (λ d. Above d ws) (carried (Answered (Spawned run pid) ∷ t))) (sym kept)
            (subst (λ (ds : List ℕ). AllByRecursion (λ d. Above d (filter (λ w. not (c == w)) (waiting t))) ds) (sym same_carried) spread);
        next = λ n k h. cc settled;
        new = λ d unused. let old = queue.new d unused in (rw same_carried (it.known d unused, old.0), rw kept (all-filter (λ w. w < d) p (waiting t) old.1));
      }

still : (t : History) (x : Item) (run c : ℕ) → awaited (x ∷ t) ≡ settle x (awaited t) → awaited (x ∷ t) ≡ Some (Spawn run (Some c)) → awaited t ≡ Some (Spawn run (Some c))
still t x run c more e = kept_awaited x (awaited t) (Spawn run (Some c)) (sym more ∙ e)

pub in_turn : (t : History) → IsLawful t → InTurn t
in_turn [] lawful = record { falls = tt; rises = tt; between = tt; next = λ run c e. cc; new = λ c e. (tt, tt) }
in_turn (Came conn ∷ t) lawful = in_turn-Came t conn lawful (in_turn t lawful.1)
in_turn (Left conn ∷ t) lawful = in_turn-Left t conn (in_turn t lawful.1)
in_turn (Ordered (Spawn run conn) ∷ t) lawful = in_turn-Spawn t run conn lawful (in_turn t lawful.1)
in_turn (Ordered (Term run) ∷ t) lawful = same_queue t (Ordered (Term run) ∷ t) refl refl refl (λ n c e. cc) (in_turn t lawful.1)
in_turn (Ordered (Kill run) ∷ t) lawful = same_queue t (Ordered (Kill run) ∷ t) refl refl refl (λ n c e. cc) (in_turn t lawful.1)
in_turn (Ordered (Close conn) ∷ t) lawful = same_queue t (Ordered (Close conn) ∷ t) refl refl refl (λ n c e. cc) (in_turn t lawful.1)
in_turn (Ordered Gone ∷ t) lawful = same_queue t (Ordered Gone ∷ t) refl refl refl (λ n c e. cc) (in_turn t lawful.1)
in_turn (Answered (Spawned run pid) ∷ t) lawful =
    let fact = Answers-from t (Spawned run pid) lawful.0.1 in
    let order = spawned-awaited t run pid fact in
    in_turn-Spawned t run pid order.0 lawful order.1 fact (in_turn t lawful.1)
in_turn (Answered (SpawnRefused run) ∷ t) lawful =
    let settled = answered-settles t (SpawnRefused run) (Answers-from t (SpawnRefused run) lawful.0.1) in
    same_queue t (Answered (SpawnRefused run) ∷ t) refl refl refl (λ n c e. cc) (in_turn t lawful.1)
in_turn (Answered (Termed run ok) ∷ t) lawful =
    let settled = answered-settles t (Termed run ok) (Answers-from t (Termed run ok) lawful.0.1) in
    same_queue t (Answered (Termed run ok) ∷ t) refl refl refl (λ n c e. cc) (in_turn t lawful.1)
in_turn (Answered (Killed run ok) ∷ t) lawful =
    let settled = answered-settles t (Killed run ok) (Answers-from t (Killed run ok) lawful.0.1) in
    same_queue t (Answered (Killed run ok) ∷ t) refl refl refl (λ n c e. cc) (in_turn t lawful.1)
in_turn (RunEnded run how ∷ t) lawful =
    let queue = in_turn t lawful.1 in
    same_queue t (RunEnded run how ∷ t) refl refl refl
    (λ n c e. queue.next n c (still t (RunEnded run how) n c (unless_settled-more (RunEnded run how) (since is_order t) (latest order_in t)) e)) queue
in_turn (Loaded d at ∷ t) lawful = let queue = in_turn t lawful.1 in same_queue t (Loaded d at ∷ t) refl refl refl queue.next queue
in_turn (Read at calendar ∷ t) lawful = let queue = in_turn t lawful.1 in same_queue t (Read at calendar ∷ t) refl refl refl queue.next queue
in_turn (Saw path obs ∷ t) lawful = let queue = in_turn t lawful.1 in same_queue t (Saw path obs ∷ t) refl refl refl queue.next queue
in_turn (Asked ask ∷ t) lawful = let queue = in_turn t lawful.1 in same_queue t (Asked ask ∷ t) refl refl refl queue.next queue
in_turn (WaitRefused run ∷ t) lawful = let queue = in_turn t lawful.1 in same_queue t (WaitRefused run ∷ t) refl refl refl queue.next queue
