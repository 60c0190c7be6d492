-- What one more item of a past changes of the connections that wait, and of what was seen at each path.
use Rattle.std.proofs.Common.{◌≡◌, ℕ, ◌<◌, ◌==◌, Bool, true, false, not, ◌||◌, ◌&&◌, cond, Option, Some, None, List, [], ◌∷◌, length, map, refl, sym, ap, ◌∙◌, arith, nat_lt}
use Rattle.std.specs.List.{list_any}
use Rattle.std.proofs.lemmas.Bool.{false≢true}
use Rattle.std.proofs.lemmas.Bool.Decides.{nat_tests}
use Rattle.history_model.specs.declared.Obs.{Obs}
use Rattle.history_model.specs.declared.Act.TheVariants.{Spawn, Term, Kill, Close, Gone}
use Rattle.history_model.specs.declared.Refusal.TheVariants.{Removing, TooManyConnections, Stale}
use Rattle.history_model.specs.declared.TheConstants.{MAX_CONNECTIONS}
use Rattle.history_model.specs.Items.{Definition, Item, Loaded, Read, Saw, Asked, Came, Left, Ordered, Answered, RunEnded, WaitRefused, History}
use Rattle.history_model.specs.Search.{first, latest, in_order}
use Rattle.history_model.specs.Clock.{definition_of}
use Rattle.history_model.specs.Runs.{has_spawned, is_removed}
use Rattle.history_model.specs.Kinds.{is_spawn_order}
use Rattle.history_model.specs.declared.reasons.DemandKind.TheVariants as kinds
use Rattle.history_model.specs.Demands.{is_same_path, differs, last_seen, fired_since, is_pending, kind_since, latest_demand, came_in, is_left, carries, is_carrying, waiting}
use Rattle.history_model.specs.Refusals.{unless, is_number_used, refusal_of, IsLawful}
use Rattle.history_model.specs.Facts.{facts_of}
use Rattle.history_model.specs.ByFacts.{seen_after, facts_after}
use Rattle.history_model.proofs.BooleanLemmas.{false-and-second, false-or, or-false}
use Rattle.history_model.proofs.SearchLemmas.{list_any-implied, filter-last, filter-less-first, list_any-filter, list_any-last}
use Rattle.history_model.proofs.LawfulLemmas.{eqb-false, unless-None, due-Spawn}
use Rattle.history_model.proofs.SeenLemmas.{any-seen}

-- ---- which connection an item names

abbrev pub names_conn : ℕ → Item → Bool
names_conn c (Came conn) = conn == c
names_conn c (Left conn) = conn == c
names_conn c (Ordered (Spawn run conn)) = carries c conn
names_conn c _ = false

left-named : (c : ℕ) (x : Item) → names_conn c x ≡ false → is_left c x ≡ false
left-named c (Left conn) h = h
left-named c _ h = refl

carrying-named : (t : History) (c : ℕ) (x : Item) → names_conn c x ≡ false → is_carrying t c x ≡ false
carrying-named t c (Ordered (Spawn run conn)) h = false-and-second (has_spawned run t) (carries c conn) h
carrying-named t c _ h = refl

-- what came is named
came-named : (c : ℕ) (t : History) → list_any (names_conn c) t ≡ false → list_any (λ d. d == c) (in_order came_in t) ≡ false
came-named c [] none = refl
came-named c (Came conn ∷ t) none =
    let both = or-false (conn == c) (list_any (names_conn c) t) none in
    list_any-last (λ d. d == c) (in_order came_in t) conn ∙ false-or (list_any (λ d. d == c) (in_order came_in t)) (conn == c) (came-named c t both.1) both.0
came-named c (Left conn ∷ t) none = came-named c t (or-false (conn == c) (list_any (names_conn c) t) none).1
came-named c (Ordered (Spawn run conn) ∷ t) none = came-named c t (or-false (carries c conn) (list_any (names_conn c) t) none).1
came-named c (Ordered (Term run) ∷ t) none = came-named c t none
came-named c (Ordered (Kill run) ∷ t) none = came-named c t none
came-named c (Ordered (Close run) ∷ t) none = came-named c t none
came-named c (Ordered Gone ∷ t) none = came-named c t none
came-named c (Answered answer ∷ t) none = came-named c t none
came-named c (RunEnded run how ∷ t) none = came-named c t none
came-named c (Loaded d at ∷ t) none = came-named c t none
came-named c (Read at calendar ∷ t) none = came-named c t none
came-named c (Saw path obs ∷ t) none = came-named c t none
came-named c (Asked ask ∷ t) none = came-named c t none
came-named c (WaitRefused run ∷ t) none = came-named c t none

abbrev pub is_open : History → ℕ → Bool
is_open t c = not (list_any (is_left c) t) && not (list_any (is_carrying t c) t)

-- a connection that no item names doesn't wait
unnamed-waiting : (c : ℕ) (t : History) → list_any (names_conn c) t ≡ false → list_any (λ d. d == c) (waiting t) ≡ false
unnamed-waiting c t none = go (list_any (λ d. d == c) (waiting t)) refl where
  go : (b : Bool) → list_any (λ d. d == c) (waiting t) ≡ b → list_any (λ d. d == c) (waiting t) ≡ false
  go true e = absurd (false≢true (sym (came-named c t none) ∙ list_any-filter (λ d. d == c) (is_open t) (in_order came_in t) e))
  go false e = e

first-carried : (c : ℕ) (xs : List ℕ) → list_any (λ d. d == c) xs ≡ false → carries c (first xs) ≡ false
first-carried c [] none = refl
first-carried c (x ∷ xs) none = (or-false (x == c) (list_any (λ d. d == c) xs) none).0

-- an accepted number is above each earlier one
pub IsNew-from : (t : History) (conn : ℕ) → refusal_of (Came conn) t ≡ None → is_number_used (latest came_in t) conn ≡ false
IsNew-from t conn e = go (is_removed t) (not (definition_of t).has_sockets) (is_number_used (latest came_in t) conn) (nat_lt (length (waiting t)) MAX_CONNECTIONS) e where
  go : (r s n w : Bool) → cond r (Some Removing) (cond (s || n) (Some Stale) (unless w TooManyConnections)) ≡ None → n ≡ false
  go true s n w h = cc
  go false true n w h = cc
  go false false true w h = cc
  go false false false w h = refl

used-less : (o : Option ℕ) (j k : ℕ) → is_number_used o j ≡ false → j < k → is_number_used o k ≡ false
used-less None j k e lt = refl
used-less (Some last) j k e lt = grind (arith, nat_tests, e, lt)

-- no item names a connection above each that came
pub unnamed-conn : (t : History) → IsLawful t → (c : ℕ) → is_number_used (latest came_in t) c ≡ false → list_any (names_conn c) t ≡ false
unnamed-conn [] lawful c fresh = refl
unnamed-conn (Came conn ∷ t) (follows, lawful) c fresh =
    let less : conn < c = grind (arith, nat_tests, fresh) in
    let before = IsNew-from t conn follows.1 in
    false-or (conn == c) (list_any (names_conn c) t) (eqb-false conn c (λ same. let h : conn ≡ c = same in omega (arith, less, h)))
    (unnamed-conn t lawful c (used-less (latest came_in t) conn c before less))
unnamed-conn (Left conn ∷ t) (follows, lawful) c fresh =
    let none = unnamed-conn t lawful c fresh in
    let stands = unless-None (list_any (λ d. d == conn) (waiting t)) Stale follows.1 in
    false-or (conn == c) (list_any (names_conn c) t) (eqb-false conn c (λ same.
    let other = unnamed-waiting c t none in
    let here : list_any (λ d. d == c) (waiting t) ≡ true = rw (← same) stands in
    false≢true (sym other ∙ here))) none
unnamed-conn (Ordered (Spawn run conn) ∷ t) (follows, lawful) c fresh =
    let none = unnamed-conn t lawful c fresh in
    let fact = due-Spawn t run conn follows.1 in
    false-or (carries c conn) (list_any (names_conn c) t) (rw fact.carried (first-carried c (waiting t) (unnamed-waiting c t none))) none
unnamed-conn (Ordered (Term run) ∷ t) lawful c fresh = unnamed-conn t lawful.1 c fresh
unnamed-conn (Ordered (Kill run) ∷ t) lawful c fresh = unnamed-conn t lawful.1 c fresh
unnamed-conn (Ordered (Close run) ∷ t) lawful c fresh = unnamed-conn t lawful.1 c fresh
unnamed-conn (Ordered Gone ∷ t) lawful c fresh = unnamed-conn t lawful.1 c fresh
unnamed-conn (Answered answer ∷ t) lawful c fresh = unnamed-conn t lawful.1 c fresh
unnamed-conn (RunEnded run how ∷ t) lawful c fresh = unnamed-conn t lawful.1 c fresh
unnamed-conn (Loaded d at ∷ t) lawful c fresh = unnamed-conn t lawful.1 c fresh
unnamed-conn (Read at calendar ∷ t) lawful c fresh = unnamed-conn t lawful.1 c fresh
unnamed-conn (Saw path obs ∷ t) lawful c fresh = unnamed-conn t lawful.1 c fresh
unnamed-conn (Asked ask ∷ t) lawful c fresh = unnamed-conn t lawful.1 c fresh
unnamed-conn (WaitRefused run ∷ t) lawful c fresh = unnamed-conn t lawful.1 c fresh

pub facts-Came : (t : History) → IsLawful t → (conn : ℕ) → refusal_of (Came conn) t ≡ None → (up : ℕ) → facts_of (Came conn ∷ t) ≡ facts_after (Came conn) up (facts_of t)
facts-Came t lawful conn accepted up =
    let none = unnamed-conn t lawful conn (IsNew-from t conn accepted) in
    let stays : list_any (is_left conn) t ≡ false = list_any-implied (is_left conn) (names_conn conn) (left-named conn) t none in
    let uncarried : list_any (is_carrying t conn) t ≡ false = list_any-implied (is_carrying t conn) (names_conn conn) (carrying-named t conn) t none in
    let open_now : is_open t conn ≡ true = rw (stays, uncarried) refl in
    λ i. record (facts_of t) { queue = filter-last (is_open t) conn open_now (in_order came_in t) i; last_number = Some conn }

pub facts-Left : (t : History) (conn : ℕ) (up : ℕ) → facts_of (Left conn ∷ t) ≡ facts_after (Left conn) up (facts_of t)
facts-Left t conn up =
    λ i. record (facts_of t) { queue = filter-less-first (λ c. conn == c) (λ c. list_any (is_left c) t) (λ c. list_any (is_carrying t c) t) (in_order came_in t) i }

-- ---- observations

pub seen-more : {A : Type 0} (path_in : A → List ℕ) (xs : List A) (t : History) (path : List ℕ) (obs : Obs) →
    map (λ x. last_seen (path_in x) (Saw path obs ∷ t)) xs ≡ seen_after path_in xs path obs (map (λ x. last_seen (path_in x) t) xs)
seen-more path_in [] t path obs = refl
seen-more path_in (x ∷ xs) t path obs = ap (λ l. last_seen (path_in x) (Saw path obs ∷ t) ∷ l) (seen-more path_in xs t path obs)

pub facts-Saw : (t : History) (path : List ℕ) (obs : Obs) (up : ℕ) → facts_of (Saw path obs ∷ t) ≡ facts_after (Saw path obs) up (facts_of t)
facts-Saw t path obs up =
    let d : Definition = definition_of t in
    let fires = any-seen (λ (watched : List ℕ) (before : Option Obs). is_same_path watched path && differs obs before) (λ watched. last_seen watched t) d.watch_paths in
    λ i. record (facts_of t) {
      has_demand = fires i || is_pending t;
      has_new_demand = fires i || fired_since is_spawn_order t;
      demand = cond (fires i) (Some kinds.Path) (latest_demand t);
      new_demand = cond (fires i) (Some kinds.Path) (kind_since is_spawn_order t);
      seen_watched = seen-more (λ p. p) d.watch_paths t path obs i;
      seen_states = seen-more (λ state. state.path) d.path_state t path obs i;
      seen_queues = seen-more (λ p. p) d.queue_directories t path obs i;
    }
