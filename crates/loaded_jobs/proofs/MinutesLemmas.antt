-- Places that are marked, run after run.
use Rattle.std.proofs.Common.{◌≡◌, ◌⊎◌, inl, inr, ℕ, zero, suc, ◌+◌, ◌==◌, ◌<◌, ◌≤◌, Bool, true, false, not, ◌&&◌, ◌||◌, List, [], ◌∷◌, ◌++◌, map, take, length, get_or, Option, Some, None, refl, sym, ap, subst, ◌∙◌, arith}
use Rattle.std.specs.Prelude.{slice_get, slice_set, slice_index_or, is_some}
use Rattle.std.specs.List.{list_any}
use Rattle.std.proofs.lemmas.Bool.Decides.{nat_tests}
use Rattle.std.proofs.lemmas.List.Folds.{list_any_more, list_any-append}
use Rattle.place_set.specs.Places.{Places, Inserts, has_place, place_room}
use Rattle.history_model.specs.declared.CivilMinute.{CivilMinute}
use Rattle.history_model.specs.declared.Entry.{Entry}
use Rattle.history_model.specs.Calendar.{allows}
use Rattle.history_model.specs.Demands.{is_same_path}
use Rattle.history_model.specs.Labels.{is_same}
use Rattle.history_model.specs.Step.{lists}
use Rattle.history_model.specs.Described.{Described}
use Rattle.history_model.specs.Definitions.{definition}
use Rattle.history_model.specs.declared.definition.parts.PathState.{PathState}
use Rattle.loaded_jobs.specs.JobSlots.{name}
use Rattle.loaded_jobs.specs.Index.{ArePlaced, is_minute_among}
use Rattle.loaded_jobs.specs.Visiting.{is_spared}
use Rattle.loaded_jobs.specs.Marking.{IsMinuteAt, HaveMarks, Marks, stands_at}
use Rattle.loaded_jobs.specs.Triggers.{rank, rank_of_minute, has_rank, triggers_of, is_placed_at, AreListed}
use Rattle.loaded_jobs.specs.declared.job_slot.JobSlot.{JobSlot}
use Rattle.loaded_jobs.specs.declared.trigger.Trigger.{Trigger}
use Rattle.loaded_jobs.specs.declared.trigger.Trigger.TheVariants.{Minute, Path}
use Rattle.loaded_jobs.specs.declared.trigger.Listed.{Listed}
use Rattle.loaded_jobs.proofs.ListLemmas.{any-map}
use Rattle.loaded_jobs.proofs.TriggerCountLemmas.{any-listed}
use Rattle.loaded_jobs.proofs.TriggersLemmas.{any-agree, any-none, any-filter, at-place, from-place, each-placed}
use Rattle.history_model.proofs.BooleanLemmas.{or-assoc, or-first, or-true, or-false, or-false-right, not-true}

-- ---- marks

pub no-marks : (ready : Places) (passes : ℕ → Bool) → ((place : ℕ) → passes place ≡ false) → Marks ready ready passes
no-marks ready passes none = record { places = λ place. sym (ap (λ b. has_place ready place || b) (none place) ∙ or-false-right (has_place ready place)); room = refl }

-- marks beside marks, seen as one
pub more-marks : (first ready later : Places) (before more all : ℕ → Bool) → ((place : ℕ) → all place ≡ (before place || more place)) → Marks first ready before → Marks ready later more → Marks first later all
more-marks first ready later before more all is marked marks = record {
  places = λ place.
      marks.places place ∙ ap (λ b. b || more place) (marked.places place) ∙ sym (or-assoc (has_place first place) (before place) (more place))
      ∙ ap (λ b. has_place first place || b) (sym (is place));
  room = marks.room ∙ marked.room;
}

pub same-marks : (first later : Places) (passes all : ℕ → Bool) → ((place : ℕ) → all place ≡ passes place) → Marks first later passes → Marks first later all
same-marks first later passes all is marked = record {
  places = λ place. marked.places place ∙ ap (λ b. has_place first place || b) (sym (is place));
  room = marked.room;
}

-- one mark
pub one-mark : (ready later : Places) (place : ℕ) → Inserts ready later place → Marks ready later (λ p. place == p)
one-mark ready later place sets = record {
  places = λ p. one p (place == p) refl;
  room = sets.room;
}
  where
    one : (p : ℕ) (b : Bool) → (place == p) ≡ b → has_place later p ≡ (has_place ready p || b)
    one p true is = let same : place ≡ p = grind (arith, nat_tests, is) in subst (λ q. has_place later q ≡ true) same sets.own ∙ sym (or-true (has_place ready p))
    one p false is = sets.others p (λ same. (let clash : ⊥ = grind (arith, nat_tests, is, same) in clash)) ∙ sym (or-false-right (has_place ready p))

-- if no place was marked, those that pass are the marked ones
pub exact-marks : (old new : Places) (passes : ℕ → Bool) → Marks old new passes → ((place : ℕ) → has_place old place ≡ false) → (place : ℕ) → has_place new place ≡ passes place
exact-marks old new passes marked empty place = marked.places place ∙ ap (λ b. b || passes place) (empty place)

-- each listed job has a place for its mark
pub have-marks : (places : List ℕ) (es : List JobSlot) (listed : List Listed) (ready : Places) → ArePlaced places es → AreListed listed (map name es) → length es ≤ place_room ready → HaveMarks listed places ready
have-marks places es listed ready placed are fits k one at =
    let own = each-placed places es placed listed (any-listed listed _ are.exact) k one at in
    let low = own.1 in (own.0, omega (arith, low, fits))

-- ---- what a run of one rank marks

module _ (places : List ℕ) (es : List JobSlot) (placed : ArePlaced places es) (listed : List Listed) (are : AreListed listed (map name es)) where
  -- the definition has a trigger of this rank
  abbrev pub has : List ℕ → Described → Bool
  has r d = list_any (λ trigger. is_same r (rank trigger)) (triggers_of d)

  pub stands : (r : List ℕ) (k : ℕ) (e : JobSlot) → slice_get es k ≡ Some e → stands_at listed places r k ≡ has r e.def
  stands r k e at = any-filter (is_placed_at places k) (has_rank r) listed ∙ at-place places es placed listed (any-listed listed _ are.exact) k e at (λ trigger. is_same r (rank trigger))

  pub stood : (r : List ℕ) (k : ℕ) → stands_at listed places r k ≡ true → (e : JobSlot) × (slice_get es k ≡ Some e) × (has r e.def ≡ true)
  stood r k is = from-place places es placed listed (any-listed listed _ are.exact) k (λ trigger. is_same r (rank trigger)) (sym (any-filter (is_placed_at places k) (has_rank r) listed) ∙ is)

-- ---- the triggers of a definition

minutes-alone : (f : Trigger → Bool) (d : Described) → ((path : List ℕ) → f (Path path) ≡ false) → list_any f (triggers_of d) ≡ list_any (λ due. f (Minute due.minute)) d.calendar
minutes-alone f d none =
    let states = map (λ (state : PathState). Path state.path) d.path_state in
    let rest = map Path d.watch_paths ++ map Path d.queue_directories in
    list_any-append f (map (λ due. Minute due.minute) d.calendar) (states ++ rest)
    ∙ (λ i. any-map f (λ due. Minute due.minute) d.calendar i || (list_any-append f states rest
    ∙ (λ j. (any-map f (λ (state : PathState). Path state.path) d.path_state ∙ any-none (λ (state : PathState). f (Path state.path)) d.path_state (λ k state at. none state.path)) j
    || (list_any-append f (map Path d.watch_paths) (map Path d.queue_directories)
    ∙ (λ k. (any-map f Path d.watch_paths ∙ any-none (λ path. f (Path path)) d.watch_paths (λ n path at. none path)) k
    || (any-map f Path d.queue_directories ∙ any-none (λ path. f (Path path)) d.queue_directories (λ n path at. none path)) k)) j)) i)
    ∙ closed (list_any (λ due. f (Minute due.minute)) d.calendar)
  where
    closed : (b : Bool) → (b || (false || (false || false))) ≡ b
    closed true = refl
    closed false = refl

-- a path of the definition, list by list
pub listed-path : (path : List ℕ) (d : Described) → list_any (λ trigger. is_same (1 ∷ path) (rank trigger)) (triggers_of d) ≡ lists (definition d) path
listed-path path d =
    let f : Trigger → Bool = λ trigger. is_same (1 ∷ path) (rank trigger) in
    let states = map (λ (state : PathState). Path state.path) d.path_state in
    let rest = map Path d.watch_paths ++ map Path d.queue_directories in
    list_any-append f (map (λ due. Minute due.minute) d.calendar) (states ++ rest)
    ∙ (λ i. (any-map f (λ due. Minute due.minute) d.calendar ∙ any-none (λ due. f (Minute due.minute)) d.calendar (λ k due at. no-minute due.minute)) i || list_any-append f states rest i)
    ∙ (λ i. any-map f (λ (state : PathState). Path state.path) d.path_state i || list_any-append f (map Path d.watch_paths) (map Path d.queue_directories) i)
    ∙ (λ i. any-agree (λ (state : PathState). f (Path state.path)) (λ (state : PathState). is_same_path path state.path) d.path_state (λ k state at. ranked state.path) i
    || ((any-map f Path d.watch_paths ∙ any-agree (λ x. f (Path x)) (is_same_path path) d.watch_paths (λ k x at. ranked x)) i
    || (any-map f Path d.queue_directories ∙ any-agree (λ x. f (Path x)) (is_same_path path) d.queue_directories (λ k x at. ranked x)) i))
    ∙ or-assoc (list_any (λ (wish : PathState). is_same_path path wish.path) d.path_state) (list_any (is_same_path path) d.watch_paths) (list_any (is_same_path path) d.queue_directories)
  where
    ranked : (x : List ℕ) → is_same (1 ∷ path) (1 ∷ x) ≡ is_same_path path x
    ranked x = refl

    no-minute : (minute : Option ℕ) → is_same (1 ∷ path) (rank_of_minute minute) ≡ false
    no-minute None = refl
    no-minute (Some n) = refl

-- an entry without a minute, or one with this minute
pub allowed : (minute : ℕ) (d : Described) →
    (list_any (λ trigger. is_same (0 ∷ []) (rank trigger)) (triggers_of d) || list_any (λ trigger. is_same (0 ∷ minute ∷ []) (rank trigger)) (triggers_of d))
    ≡ list_any (λ due. allows due.minute minute) d.calendar
allowed minute d =
    (λ i. minutes-alone (λ trigger. is_same (0 ∷ []) (rank trigger)) d (λ path. refl) i || minutes-alone (λ trigger. is_same (0 ∷ minute ∷ []) (rank trigger)) d (λ path. refl) i) ∙ go d.calendar
  where
    turned : (m n : ℕ) → ((m == n) && true) ≡ (n == m)
    turned m n = both (m == n) refl (n == m) refl
      where
        both : (a : Bool) → (m == n) ≡ a → (b : Bool) → (n == m) ≡ b → (a && true) ≡ b
        both true first true second = refl
        both true first false second = let clash : ⊥ = grind (arith, nat_tests, first, second) in absurd clash
        both false first true second = let clash : ⊥ = grind (arith, nat_tests, first, second) in absurd clash
        both false first false second = refl

    one : (wanted : Option ℕ) → (is_same (0 ∷ []) (rank_of_minute wanted) || is_same (0 ∷ minute ∷ []) (rank_of_minute wanted)) ≡ allows wanted minute
    one None = refl
    one (Some n) = turned minute n

    paired : (a b c d : Bool) → ((a || c) || (b || d)) ≡ ((a || b) || (c || d))
    paired true b c d = refl
    paired false true true d = refl
    paired false true false d = refl
    paired false false true d = refl
    paired false false false d = refl

    go : (calendar : List Entry) → (list_any (λ due. is_same (0 ∷ []) (rank_of_minute due.minute)) calendar || list_any (λ due. is_same (0 ∷ minute ∷ []) (rank_of_minute due.minute)) calendar)
        ≡ list_any (λ due. allows due.minute minute) calendar
    go [] = refl
    go (due ∷ dues) =
        paired (is_same (0 ∷ []) (rank_of_minute due.minute)) (is_same (0 ∷ minute ∷ []) (rank_of_minute due.minute))
        (list_any (λ due. is_same (0 ∷ []) (rank_of_minute due.minute)) dues) (list_any (λ due. is_same (0 ∷ minute ∷ []) (rank_of_minute due.minute)) dues)
        ∙ (λ i. one due.minute i || go dues i)

-- ---- the minutes that are crossed

pub some-first : (ms : List CivilMinute) → (length ms == 0) ≡ false → is_some (slice_get ms 0) ≡ true
some-first [] none = cc
some-first (m ∷ ms) none = refl

-- at the place is a job with an entry that has no minute, or with one of these
abbrev pub stands_among : List Listed → List ℕ → List CivilMinute → ℕ → Bool
stands_among listed places minutes place = stands_at listed places (0 ∷ []) place || list_any (λ minute. stands_at listed places (0 ∷ minute.minute ∷ []) place) minutes

pub minute-more : (first ready later : Places) (listed : List Listed) (places : List ℕ) (minutes : List CivilMinute) (i : ℕ) (d : CivilMinute) → i < length minutes →
    Marks first ready (stands_among listed places (take i minutes)) → Marks ready later (stands_at listed places (0 ∷ (get_or minutes i d).minute ∷ [])) → Marks first later (stands_among listed places (take (i + 1) minutes))
minute-more first ready later listed places minutes i d within marked marks =
    more-marks first ready later (stands_among listed places (take i minutes)) (stands_at listed places (0 ∷ (get_or minutes i d).minute ∷ [])) (stands_among listed places (take (i + 1) minutes))
    (λ place. ap (λ b. stands_at listed places (0 ∷ []) place || b) (list_any_more (λ m. stands_at listed places (0 ∷ m.minute ∷ []) place) minutes i d within)
    ∙ or-assoc (stands_at listed places (0 ∷ []) place) (list_any (λ m. stands_at listed places (0 ∷ m.minute ∷ []) place) (take i minutes)) (stands_at listed places (0 ∷ (get_or minutes i d).minute ∷ []) place))
    marked marks

-- a minute of the hour that one of these has adds no place
noted-more : (listed : List Listed) (places : List ℕ) (place n : ℕ) (ms : List CivilMinute) → list_any (λ m. m.minute == n) ms ≡ true →
    (list_any (λ (m : CivilMinute). stands_at listed places (0 ∷ m.minute ∷ []) place) ms || stands_at listed places (0 ∷ n ∷ []) place) ≡ list_any (λ (m : CivilMinute). stands_at listed places (0 ∷ m.minute ∷ []) place) ms
noted-more listed places place n [] some = cc
noted-more listed places place n (m ∷ ms) some = go (m.minute == n) refl some (noted-more listed places place n ms)
  where
    own : CivilMinute → Bool
    own x = stands_at listed places (0 ∷ x.minute ∷ []) place

    twice : (a b : Bool) → ((a || b) || a) ≡ (a || b)
    twice true b = refl
    twice false b = or-false-right b

    go : (b : Bool) → (m.minute == n) ≡ b → (b || list_any (λ (x : CivilMinute). x.minute == n) ms) ≡ true →
        (list_any (λ (x : CivilMinute). x.minute == n) ms ≡ true → (list_any own ms || stands_at listed places (0 ∷ n ∷ []) place) ≡ list_any own ms) →
        ((own m || list_any own ms) || stands_at listed places (0 ∷ n ∷ []) place) ≡ (own m || list_any own ms)
    go true is some later =
        let same : n ≡ m.minute = grind (arith, nat_tests, is) in
        ap (λ k. (own m || list_any own ms) || stands_at listed places (0 ∷ k ∷ []) place) same ∙ twice (own m) (list_any own ms)
    go false is some later = sym (or-assoc (own m) (list_any own ms) (stands_at listed places (0 ∷ n ∷ []) place)) ∙ ap (λ b. own m || b) (later some)

-- the minutes are marked, and each minute of the hour that is noted is that of one of them
pub record IsNoted (listed : List Listed) (places : List ℕ) (first ready : Places) (seen : List Bool) (minutes : List CivilMinute) : Type 0 where
  pub marks : Marks first ready (stands_among listed places minutes)
  pub noted : (n : ℕ) → slice_index_or seen n false ≡ true → list_any (λ m. m.minute == n) minutes ≡ true

noted-set : (seen : List Bool) (k n : ℕ) → slice_index_or (slice_set seen k true) n false ≡ true → (k == n) ≡ false → slice_index_or seen n false ≡ true
noted-set [] k n is differ = is
noted-set (b ∷ bs) zero zero is differ = cc
noted-set (b ∷ bs) zero (suc n) is differ = is
noted-set (b ∷ bs) (suc k) zero is differ = is
noted-set (b ∷ bs) (suc k) (suc n) is differ = noted-set bs k n is (grind (arith, nat_tests, differ))

pub once-more : (listed : List Listed) (places : List ℕ) (first ready later : Places) (seen after : List Bool) (minutes : List CivilMinute) (i : ℕ) (d : CivilMinute) → i < length minutes →
    (slice_index_or seen (get_or minutes i d).minute false ≡ true → (later ≡ ready) × (after ≡ seen)) →
    (slice_index_or seen (get_or minutes i d).minute false ≡ false → Marks ready later (stands_at listed places (0 ∷ (get_or minutes i d).minute ∷ [])) × (after ≡ slice_set seen (get_or minutes i d).minute true)) →
    IsNoted listed places first ready seen (take i minutes) → IsNoted listed places first later after (take (i + 1) minutes)
once-more listed places first ready later seen after minutes i d within if_noted if_fresh so_far = go (slice_index_or seen n false) refl
  where
    n : ℕ
    n = (get_or minutes i d).minute

    more : (k : ℕ) → list_any (λ m. m.minute == k) (take (i + 1) minutes) ≡ (list_any (λ m. m.minute == k) (take i minutes) || (n == k))
    more k = list_any_more (λ m. m.minute == k) minutes i d within

    go : (b : Bool) → slice_index_or seen n false ≡ b → IsNoted listed places first later after (take (i + 1) minutes)
    go true is =
        let same = if_noted is in
        record {
          marks = subst (λ p. Marks first p (stands_among listed places (take (i + 1) minutes))) (sym same.0)
              (same-marks first ready (stands_among listed places (take i minutes)) (stands_among listed places (take (i + 1) minutes))
              (λ place. ap (λ b. stands_at listed places (0 ∷ []) place || b)
              (list_any_more (λ m. stands_at listed places (0 ∷ m.minute ∷ []) place) minutes i d within ∙ noted-more listed places place n (take i minutes) (so_far.noted n is)))
              so_far.marks);
          noted = λ k there. more k ∙ or-first (list_any (λ m. m.minute == k) (take i minutes)) (n == k) (so_far.noted k (ap (λ s. slice_index_or s k false) (sym same.1) ∙ there));
        }
    go false is =
        let new = if_fresh is in
        record {
          marks = minute-more first ready later listed places minutes i d within so_far.marks new.0;
          noted = λ k there. more k ∙ pick k (n == k) refl (ap (λ s. slice_index_or s k false) (sym new.1) ∙ there);
        }
      where
        pick : (k : ℕ) (b : Bool) → (n == k) ≡ b → slice_index_or (slice_set seen n true) k false ≡ true → (list_any (λ m. m.minute == k) (take i minutes) || b) ≡ true
        pick k true same there = or-true (list_any (λ m. m.minute == k) (take i minutes))
        pick k false differ there = or-first (list_any (λ m. m.minute == k) (take i minutes)) false (so_far.noted k (noted-set seen n k there differ))

module _ (places : List ℕ) (es : List JobSlot) (placed : ArePlaced places es) (listed : List Listed) (are : AreListed listed (map name es)) (first later : Places) (minutes : List CivilMinute) (some : is_some (slice_get minutes 0) ≡ true)
    (marks : Marks first later (stands_among listed places minutes)) where
  spread : (a : Bool) (b c : CivilMinute → Bool) → ((m : CivilMinute) → (a || b m) ≡ c m) → (ms : List CivilMinute) → is_some (slice_get ms 0) ≡ true → (a || list_any b ms) ≡ list_any c ms
  spread a b c each [] some = cc
  spread a b c each (m ∷ ms) some = go a each
    where
      any : (x : Bool) → ((n : CivilMinute) → (x || b n) ≡ c n) → (ns : List CivilMinute) → x ≡ false → list_any b ns ≡ list_any c ns
      any x each [] is = refl
      any x each (n ∷ ns) is = λ i. (ap (λ y. y || b n) (sym is) ∙ each n) i || any x each ns is i

      go : (x : Bool) → ((n : CivilMinute) → (x || b n) ≡ c n) → (x || list_any b (m ∷ ms)) ≡ list_any c (m ∷ ms)
      go true each = ap (λ y. y || list_any c ms) (each m)
      go false each = any false each (m ∷ ms) refl

  has_none : Described → Bool
  has_none d = has places es placed listed are (0 ∷ []) d

  among : (d : Described) → (has places es placed listed are (0 ∷ []) d || list_any (λ (minute : CivilMinute). has places es placed listed are (0 ∷ minute.minute ∷ []) d) minutes) ≡ is_minute_among d.calendar minutes
  among d = spread (has places es placed listed are (0 ∷ []) d) (λ minute. has places es placed listed are (0 ∷ minute.minute ∷ []) d) (λ minute. list_any (λ due. allows due.minute minute.minute) d.calendar)
      (λ minute. allowed minute.minute d) minutes some

  stands-all : (ms : List CivilMinute) (place : ℕ) (e : JobSlot) → slice_get es place ≡ Some e →
      list_any (λ (minute : CivilMinute). stands_at listed places (0 ∷ minute.minute ∷ []) place) ms ≡ list_any (λ (minute : CivilMinute). has places es placed listed are (0 ∷ minute.minute ∷ []) e.def) ms
  stands-all [] place e at = refl
  stands-all (m ∷ ms) place e at = λ i. stands places es placed listed are (0 ∷ m.minute ∷ []) place e at i || stands-all ms place e at i

  here : (place : ℕ) (e : JobSlot) → slice_get es place ≡ Some e → stands_among listed places minutes place ≡ is_minute_among e.def.calendar minutes
  here place e at = (λ i. stands places es placed listed are (0 ∷ []) place e at i || stands-all minutes place e at i) ∙ among e.def

  some-job : (place : ℕ) → stands_among listed places minutes place ≡ true → (e : JobSlot) × (slice_get es place ≡ Some e)
  some-job place is = go (stands_at listed places (0 ∷ []) place) refl is
    where
      by : (ms : List CivilMinute) → list_any (λ (minute : CivilMinute). stands_at listed places (0 ∷ minute.minute ∷ []) place) ms ≡ true → (e : JobSlot) × (slice_get es place ≡ Some e)
      by [] is = cc
      by (m ∷ ms) is = pick (stands_at listed places (0 ∷ m.minute ∷ []) place) refl is (by ms)
        where
          pick : (b : Bool) → stands_at listed places (0 ∷ m.minute ∷ []) place ≡ b → (b || list_any (λ (minute : CivilMinute). stands_at listed places (0 ∷ minute.minute ∷ []) place) ms) ≡ true →
              (list_any (λ (minute : CivilMinute). stands_at listed places (0 ∷ minute.minute ∷ []) place) ms ≡ true → (e : JobSlot) × (slice_get es place ≡ Some e)) → (e : JobSlot) × (slice_get es place ≡ Some e)
          pick true one is later = let found = stood places es placed listed are (0 ∷ m.minute ∷ []) place one in (found.0, found.1)
          pick false one is later = later is

      go : (b : Bool) → stands_at listed places (0 ∷ []) place ≡ b → (b || list_any (λ (minute : CivilMinute). stands_at listed places (0 ∷ minute.minute ∷ []) place) minutes) ≡ true → (e : JobSlot) × (slice_get es place ≡ Some e)
      go true one is = let found = stood places es placed listed are (0 ∷ []) place one in (found.0, found.1)
      go false one is = by minutes is

  pub minute-spared : (place : ℕ) (e : JobSlot) → slice_get es place ≡ Some e → is_spared later place ≡ true → (is_spared first place ≡ true) × (is_minute_among e.def.calendar minutes ≡ false)
  minute-spared place e at none =
      let both = or-false (has_place first place) (stands_among listed places minutes place) (sym (marks.places place) ∙ not-true (has_place later place) none) in
      (ap not both.0, sym (here place e at) ∙ both.1)

  pub minute-marks : (place : ℕ) → has_place later place ≡ true → (has_place first place ≡ true) ⊎ IsMinuteAt es minutes place
  minute-marks place at = go (has_place first place) refl (sym (marks.places place) ∙ at)
    where
      go : (b : Bool) → has_place first place ≡ b → (b || stands_among listed places minutes place) ≡ true → (has_place first place ≡ true) ⊎ IsMinuteAt es minutes place
      go true is some = inl is
      go false is some = let found = some-job place some in inr (found.0, found.1, sym (here place found.0 found.1) ∙ some)
