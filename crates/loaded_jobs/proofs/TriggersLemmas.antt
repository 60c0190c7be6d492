-- What is asked of the list of triggers, asked of the jobs.
use Rattle.std.proofs.Common.{◌≡◌, ◌≢◌, ℕ, zero, suc, ◌+◌, ◌==◌, ◌<◌, nat_lt, Bool, true, false, not, ◌&&◌, ◌||◌, cond, List, [], ◌∷◌, ◌++◌, map, length, count_by, Option, Some, None, refl, sym, ap, subst, ◌∙◌, arith}
use Rattle.std.specs.Prelude.{slice_get}
use Rattle.std.specs.List.{filter, list_any}
use Rattle.std.proofs.lemmas.Bool.Decides.{nat_tests}
use Rattle.std.proofs.lemmas.Option.{slice_get_within}
use Rattle.std.proofs.lemmas.List.Folds.{list_any-append}
use Rattle.history_model.specs.Labels.{is_same, is_before}
use Rattle.history_model.specs.Described.{Described}
use Rattle.history_model.specs.Definitions.{definition}
use Rattle.history_model.specs.declared.definition.parts.PathState.{PathState}
use Rattle.loaded_jobs.specs.JobSlots.{row, rows, name, job_slot_stays}
use Rattle.loaded_jobs.specs.Index.{place_in, ArePlaced}
use Rattle.loaded_jobs.specs.Nearest.{IsNearestOf, paths_of, paths_in}
use Rattle.loaded_jobs.specs.Triggers.{rank, path_in, is_below, is_behind, triggers_of, under, listed_in, AreOrdered, is_staying, stays_at, stays_under, is_placed_at}
use Rattle.loaded_jobs.specs.declared.job_slot.JobSlot.{JobSlot}
use Rattle.loaded_jobs.specs.declared.trigger.Trigger.{Trigger}
use Rattle.loaded_jobs.specs.declared.trigger.Trigger.TheVariants.{Minute, Path}
use Rattle.loaded_jobs.specs.declared.trigger.Listed.{Listed}
use Rattle.loaded_jobs.proofs.TriggerCountLemmas.{sum-agree, sum-filter, count-and, own-count, by-counts}
use Rattle.loaded_jobs.proofs.ListLemmas.{any-map}
use Rattle.loaded_jobs.proofs.RankLemmas.{in-order}
use Rattle.loaded_jobs.proofs.NearestLemmas.{not-before-self}
use Rattle.history_model.proofs.BooleanLemmas.{or-false, and-false, and-true, and-both, not-false, or-false-right, or-swap, unless-true}
use Rattle.history_model.proofs.LabelOrderLemmas.{same_self}

-- ---- lists of which something passes

module _ {X : Type 0} where
  pub any-agree : (p q : X → Bool) (xs : List X) → ((j : ℕ) (x : X) → slice_get xs j ≡ Some x → p x ≡ q x) → list_any p xs ≡ list_any q xs
  any-agree p q [] each = refl
  any-agree p q (x ∷ xs) each = λ i. each 0 x refl i || any-agree p q xs (λ j y at. each (suc j) y at) i

  pub any-none : (p : X → Bool) (xs : List X) → ((j : ℕ) (x : X) → slice_get xs j ≡ Some x → p x ≡ false) → list_any p xs ≡ false
  any-none p [] none = refl
  any-none p (x ∷ xs) none = λ i. none 0 x refl i || any-none p xs (λ j y at. none (suc j) y at) i

  any-only : (p : X → Bool) (xs : List X) (k : ℕ) (x : X) → slice_get xs k ≡ Some x → ((j : ℕ) (y : X) → slice_get xs j ≡ Some y → k ≢ j → p y ≡ false) → list_any p xs ≡ p x
  any-only p [] zero x at others = cc
  any-only p [] (suc k) x at others = cc
  any-only p (y ∷ ys) zero x at others =
      let same : y ≡ x = cc in
      (λ i. p y || any-none p ys (λ j z there. others (suc j) z there (λ is. (let clash : ⊥ = omega (arith, is) in clash))) i) ∙ or-false-right (p y) ∙ ap p same
  any-only p (y ∷ ys) (suc k) x at others =
      (λ i. others 0 y refl (λ is. (let clash : ⊥ = omega (arith, is) in clash)) i || any-only p ys k x at (λ j z there apart. others (suc j) z there (λ is. apart (omega (arith, is)))) i)

  pub any-has : (p : X → Bool) (xs : List X) → list_any p xs ≡ true → (j : ℕ) × (x : X) × (slice_get xs j ≡ Some x) × (p x ≡ true)
  any-has p [] some = cc
  any-has p (x ∷ xs) some = go (p x) refl some (any-has p xs)
    where
      go : (b : Bool) → p x ≡ b → (b || list_any p xs) ≡ true → (list_any p xs ≡ true → (j : ℕ) × (y : X) × (slice_get xs j ≡ Some y) × (p y ≡ true)) →
          (j : ℕ) × (y : X) × (slice_get (x ∷ xs) j ≡ Some y) × (p y ≡ true)
      go true is some later = (0, x, refl, is)
      go false is some later = let found = later some in (suc found.0, found.1, found.2, found.3)

  pub any-fails : (p : X → Bool) (xs : List X) → list_any p xs ≡ false → (j : ℕ) (x : X) → slice_get xs j ≡ Some x → p x ≡ false
  any-fails p [] none j x at = cc
  any-fails p (y ∷ ys) none zero x at = let same : y ≡ x = cc in subst (λ z. p z ≡ false) same (or-false (p y) (list_any p ys) none).0
  any-fails p (y ∷ ys) none (suc j) x at = any-fails p ys (or-false (p y) (list_any p ys) none).1 j x at

  pub any-filter : (p q : X → Bool) (xs : List X) → list_any p (filter q xs) ≡ list_any (λ x. q x && p x) xs
  any-filter p q [] = refl
  any-filter p q (x ∷ xs) = go (q x) (any-filter p q xs)
    where
      go : (b : Bool) → list_any p (filter q xs) ≡ list_any (λ x. q x && p x) xs → list_any p (cond b (x ∷ filter q xs) (filter q xs)) ≡ ((b && p x) || list_any (λ x. q x && p x) xs)
      go true later = ap (λ b. p x || b) later
      go false later = later

  any-and : (p : X → Bool) (b : Bool) (xs : List X) → list_any (λ x. p x && b) xs ≡ (list_any p xs && b)
  any-and p b [] = refl
  any-and p b (x ∷ xs) = ap (λ c. (p x && b) || c) (any-and p b xs) ∙ shared (p x) (list_any p xs) b
    where
      shared : (a c b : Bool) → ((a && b) || (c && b)) ≡ ((a || c) && b)
      shared true true true = refl
      shared true true false = refl
      shared true false true = refl
      shared true false false = refl
      shared false c b = refl

  and-any : (b : Bool) (p : X → Bool) (xs : List X) → list_any (λ x. b && p x) xs ≡ (b && list_any p xs)
  and-any true p xs = refl
  and-any false p xs = any-none (λ x. false) xs (λ j x at. refl)

  pub any-passes : (p : X → Bool) (xs : List X) (j : ℕ) (x : X) → slice_get xs j ≡ Some x → p x ≡ true → list_any p xs ≡ true
  any-passes p [] zero x at is = cc
  any-passes p [] (suc j) x at is = cc
  any-passes p (y ∷ ys) zero x at is = let same : y ≡ x = cc in ap (λ b. b || list_any p ys) (ap p same ∙ is)
  any-passes p (y ∷ ys) (suc j) x at is = ap (λ b. p y || b) (any-passes p ys j x at is) ∙ or-swap (p y) true

  pub filter-at : (p : X → Bool) (xs : List X) (k : ℕ) (x : X) → slice_get (filter p xs) k ≡ Some x → (j : ℕ) × (slice_get xs j ≡ Some x)
  filter-at p [] k x at = cc
  filter-at p (y ∷ ys) k x at = go (p y) k at (λ i there. filter-at p ys i x there)
    where
      go : (b : Bool) (k : ℕ) → slice_get (cond b (y ∷ filter p ys) (filter p ys)) k ≡ Some x → ((i : ℕ) → slice_get (filter p ys) i ≡ Some x → (j : ℕ) × (slice_get ys j ≡ Some x)) →
          (j : ℕ) × (slice_get (y ∷ ys) j ≡ Some x)
      go true zero at later = (0, at)
      go true (suc k) at later = let found = later k at in (suc found.0, found.1)
      go false k at later = let found = later k at in (suc found.0, found.1)

-- ---- by jobs

-- one of the job's triggers passes
abbrev pub own : (Listed → Bool) → JobSlot → Bool
own test e = list_any (λ trigger. test (under e.number trigger)) (triggers_of e.def)

pub by-job_slots : (test : Listed → Bool) (es : List JobSlot) → list_any test (listed_in (map name es)) ≡ list_any (own test) es
by-job_slots test [] = refl
by-job_slots test (e ∷ es) =
    list_any-append test (map (under e.number) (triggers_of e.def)) (listed_in (map name es))
    ∙ (λ i. any-map test (under e.number) (triggers_of e.def) i || by-job_slots test es i)

-- ---- paths

abbrev pub on-some : (List ℕ → Bool) → Option (List ℕ) → Bool
on-some q None = false
on-some q (Some path) = q path

abbrev pub on-path : (List ℕ → Bool) → Trigger → Bool
on-path q trigger = on-some q (path_in trigger)

behind-path : (text : List ℕ) (trigger : Trigger) → on-path (is_before text) trigger ≡ is_before (1 ∷ text) (rank trigger)
behind-path text (Minute None) = refl
behind-path text (Minute (Some minute)) = refl
behind-path text (Path path) = refl

between-path : (text path : List ℕ) (trigger : Trigger) → on-path (λ other. is_before text other && is_before other path) trigger ≡ (is_before (1 ∷ text) (rank trigger) && is_before (rank trigger) (1 ∷ path))
between-path text path (Minute None) = refl
between-path text path (Minute (Some minute)) = refl
between-path text path (Path other) = refl

definition-paths : (q : List ℕ → Bool) (d : Described) → list_any (on-path q) (triggers_of d) ≡ list_any q (paths_of (definition d))
definition-paths q d =
    let states = map (λ (state : PathState). Path state.path) d.path_state in
    let rest = map Path d.watch_paths ++ map Path d.queue_directories in
    list_any-append (on-path q) (map (λ due. Minute due.minute) d.calendar) (states ++ rest)
    ∙ ap (λ b. b || list_any (on-path q) (states ++ rest)) (any-map (on-path q) (λ due. Minute due.minute) d.calendar ∙ any-none (λ due. false) d.calendar (λ j x at. refl))
    ∙ list_any-append (on-path q) states rest
    ∙ (λ i. any-map (on-path q) (λ (state : PathState). Path state.path) d.path_state i || list_any-append (on-path q) (map Path d.watch_paths) (map Path d.queue_directories) i)
    ∙ (λ i. list_any (λ (wish : PathState). q wish.path) d.path_state || (any-map (on-path q) Path d.watch_paths i || any-map (on-path q) Path d.queue_directories i))
    ∙ (λ i. sym (any-map q (λ (wish : PathState). wish.path) d.path_state) i || sym (list_any-append q d.watch_paths d.queue_directories) i)
    ∙ sym (list_any-append q (map (λ (wish : PathState). wish.path) d.path_state) (d.watch_paths ++ d.queue_directories))

rows-paths : (q : List ℕ → Bool) (es : List JobSlot) → list_any q (paths_in (rows es)) ≡ list_any (λ e. job_slot_stays e && list_any (on-path q) (triggers_of e.def)) es
rows-paths q [] = refl
rows-paths q (e ∷ es) = go e.has_gone (rows-paths q es)
  where
    go : (b : Bool) → list_any q (paths_in (rows es)) ≡ list_any (λ e. job_slot_stays e && list_any (on-path q) (triggers_of e.def)) es → list_any q (paths_in (cond b (rows es) (row e ∷ rows es)))
        ≡ ((not b && list_any (on-path q) (triggers_of e.def)) || list_any (λ e. job_slot_stays e && list_any (on-path q) (triggers_of e.def)) es)
    go true later = later
    go false later = list_any-append q (paths_of (definition e.def)) (paths_in (rows es)) ∙ (λ i. sym (definition-paths q e.def) i || later i)

one-fails : (a b : Bool) → (b ≡ true → a ≡ false) → (a && b) ≡ false
one-fails true true never = never refl
one-fails true false never = refl
one-fails false b never = refl

two-fail : (a b c : Bool) → c ≡ false → (a && (b && c)) ≡ false
two-fail true true c none = none
two-fail true false c none = refl
two-fail false b c none = refl

three-fail : (a b c : Bool) → (b ≡ true → a ≡ false) → (a && (b && c)) ≡ false
three-fail true true c never = let clash : true ≡ false = never refl in absurd (cc clash)
three-fail true false c never = refl
three-fail false b c never = refl

-- ---- a test that passes the triggers of the jobs that stay, and no other

count-kept : (p q : Listed → Bool) (xs : List Listed) → count_by p (filter q xs) ≡ count_by (λ x. q x && p x) xs
count-kept p q xs = sum-filter (λ x. cond (p x) 1 0) q xs
    ∙ sum-agree (λ x. cond (q x) (cond (p x) 1 0) 0) (λ x. cond (q x && p x) 1 0) xs (λ j x at. both (q x) (p x))
  where
    both : (a b : Bool) → ◌≡◌ {A = ℕ} (cond a (cond b 1 0) 0) (cond (a && b) 1 0)
    both true b = refl
    both false b = refl

module _ (kept : Listed → Bool) (es : List JobSlot) (own : (k : ℕ) (e : JobSlot) → slice_get es k ≡ Some e → (trigger : Trigger) → kept (under e.number trigger) ≡ job_slot_stays e) where
  -- how many of a job's triggers pass, of the jobs that stay
  count-stays : (test : Listed → Bool) (k : ℕ) (e : JobSlot) → slice_get es k ≡ Some e → own-count (λ one. kept one && test one) e ≡ cond (job_slot_stays e) (own-count test e) 0
  count-stays test k e at =
      sum-agree (λ trigger. cond (kept (under e.number trigger) && test (under e.number trigger)) 1 0) (λ trigger. cond (job_slot_stays e && test (under e.number trigger)) 1 0) (triggers_of e.def)
      (λ j trigger there. ap (λ b. cond (b && test (under e.number trigger)) 1 0) (own k e at trigger))
      ∙ count-and (job_slot_stays e) (λ trigger. test (under e.number trigger)) (triggers_of e.def)

  -- those that pass are those of the slots that stay
  pub exact-kept : (listed : List Listed) → ((test : Listed → Bool) → count_by test listed ≡ count_by test (listed_in (map name es))) →
      (test : Listed → Bool) → count_by test (filter kept listed) ≡ count_by test (listed_in (map name (filter job_slot_stays es)))
  exact-kept listed before test =
      count-kept test kept listed
      ∙ before (λ one. kept one && test one)
      ∙ by-counts (λ one. kept one && test one) es
      ∙ sum-agree (own-count (λ one. kept one && test one)) (λ e. cond (job_slot_stays e) (own-count test e) 0) es (count-stays test)
      ∙ sym (sum-filter (own-count test) job_slot_stays es) ∙ sym (by-counts test (filter job_slot_stays es))

-- ---- those that left

module _ (places : List ℕ) (es : List JobSlot) (placed : ArePlaced places es) where
  -- each job's place in the list of places
  place-got : (k : ℕ) (e : JobSlot) → slice_get es k ≡ Some e → slice_get places e.number ≡ Some k
  place-got k e at = let own = placed k e at in got places e.number k own.0 own.1
    where
      got : (ps : List ℕ) (n place : ℕ) → n < length ps → place_in ps n ≡ place → slice_get ps n ≡ Some place
      got [] n place within is = absurd (omega (arith, within))
      got (p ∷ ps) zero place within is = ap Some is
      got (p ∷ ps) (suc n) place within is = got ps n place (omega (arith, within)) is

  own-stays : (k : ℕ) (e : JobSlot) → slice_get es k ≡ Some e → (trigger : Trigger) → stays_under places es (under e.number trigger) ≡ job_slot_stays e
  own-stays k e at trigger = ap (stays_at es) (place-got k e at) ∙ ap is_staying at

  if-stays : (test : Trigger → ℕ → Bool) (k : ℕ) (e : JobSlot) → slice_get es k ≡ Some e →
      own (λ one. stays_under places es one && test one.trigger one.number) e ≡ (job_slot_stays e && list_any (λ trigger. test trigger e.number) (triggers_of e.def))
  if-stays test k e at =
      any-agree (λ trigger. stays_under places es (under e.number trigger) && test trigger e.number) (λ trigger. job_slot_stays e && test trigger e.number) (triggers_of e.def)
      (λ j trigger there. ap (λ b. b && test trigger e.number) (own-stays k e at trigger))
      ∙ and-any (job_slot_stays e) (λ trigger. test trigger e.number) (triggers_of e.def)

  -- those of the jobs that stay are those of the slots that stay
  pub exact-tidy : (listed : List Listed) → ((test : Listed → Bool) → count_by test listed ≡ count_by test (listed_in (map name es))) →
      (test : Listed → Bool) → count_by test (filter (stays_under places es) listed) ≡ count_by test (listed_in (map name (filter job_slot_stays es)))
  exact-tidy = exact-kept (stays_under places es) es own-stays

  -- ---- the jobs at one place

  module _ (listed : List Listed) (exact : (test : Listed → Bool) → list_any test listed ≡ list_any test (listed_in (map name es))) where
    own-place : (k j : ℕ) (y : JobSlot) → slice_get es j ≡ Some y → (f : Trigger → Bool) →
        own (λ one. f one.trigger && is_placed_at places k one) y ≡ (list_any f (triggers_of y.def) && (j == k))
    own-place k j y at f = any-and f (place_in places y.number == k) (triggers_of y.def) ∙ ap (λ p. list_any f (triggers_of y.def) && (p == k)) (placed j y at).1

    -- some item that passes is at the job's place exactly if one of the job's triggers passes
    pub at-place : (k : ℕ) (e : JobSlot) → slice_get es k ≡ Some e → (f : Trigger → Bool) → list_any (λ one. f one.trigger && is_placed_at places k one) listed ≡ list_any f (triggers_of e.def)
    at-place k e at f =
        exact (λ one. f one.trigger && is_placed_at places k one) ∙ by-job_slots (λ one. f one.trigger && is_placed_at places k one) es
        ∙ any-only (own (λ one. f one.trigger && is_placed_at places k one)) es k e at
        (λ j y there apart. own-place k j y there f ∙ ap (λ b. list_any f (triggers_of y.def) && b) (differs j apart) ∙ and-false (list_any f (triggers_of y.def)))
        ∙ own-place k k e at f ∙ ap (λ b. list_any f (triggers_of e.def) && b) (same k) ∙ and-true (list_any f (triggers_of e.def))
      where
        differs : (j : ℕ) → k ≢ j → (j == k) ≡ false
        differs j apart = unless-true (j == k) (λ is. (let same : k ≡ j = grind (arith, nat_tests, is) in apart same))

        same : (n : ℕ) → (n == n) ≡ true
        same n = grind arith

    -- an item that passes is that of a job at its place
    pub from-place : (k : ℕ) (f : Trigger → Bool) → list_any (λ one. f one.trigger && is_placed_at places k one) listed ≡ true →
        (e : JobSlot) × (slice_get es k ≡ Some e) × (list_any f (triggers_of e.def) ≡ true)
    from-place k f some =
        let found = any-has (own (λ one. f one.trigger && is_placed_at places k one)) es
        (sym (exact (λ one. f one.trigger && is_placed_at places k one) ∙ by-job_slots (λ one. f one.trigger && is_placed_at places k one) es) ∙ some) in
        let both = and-both (list_any f (triggers_of found.1.def)) (found.0 == k) (sym (own-place k found.0 found.1 found.2 f) ∙ found.3) in
        let is = both.1 in
        let same : found.0 ≡ k = grind (arith, nat_tests, is) in
        (found.1, ap (slice_get es) (sym same) ∙ found.2, both.0)

    -- each item is that of a job that has a place
    pub each-placed : (j : ℕ) (one : Listed) → slice_get listed j ≡ Some one → (one.number < length places) × (place_in places one.number < length es)
    each-placed j one at =
        let none : list_any (λ x. not (nat_lt x.number (length places) && nat_lt (place_in places x.number) (length es))) listed ≡ false =
        exact (λ x. not (nat_lt x.number (length places) && nat_lt (place_in places x.number) (length es)))
        ∙ by-job_slots (λ x. not (nat_lt x.number (length places) && nat_lt (place_in places x.number) (length es))) es
        ∙ any-none (own (λ x. not (nat_lt x.number (length places) && nat_lt (place_in places x.number) (length es)))) es
        (λ k e there. any-none (λ trigger. not (nat_lt e.number (length places) && nat_lt (place_in places e.number) (length es))) (triggers_of e.def) (λ i trigger here. (
        let first = (placed k e there).0 in
        let second = (placed k e there).1 in
        let inside = slice_get_within es k e there in
        let a : nat_lt e.number (length places) ≡ true = grind (arith, first) in
        let b : nat_lt (place_in places e.number) (length es) ≡ true = grind (arith, second, inside) in
        λ t. not (a t && b t)))) in
        let fails = any-fails (λ x. not (nat_lt x.number (length places) && nat_lt (place_in places x.number) (length es))) listed none j one at in
        let both = and-both (nat_lt one.number (length places)) (nat_lt (place_in places one.number) (length es)) (not-false (nat_lt one.number (length places) && nat_lt (place_in places one.number) (length es)) fails) in
        let first = both.0 in
        let second = both.1 in
        (grind (arith, first), grind (arith, second))

    -- ---- the paths

    pub exact-paths : (q : List ℕ → Bool) → list_any q (paths_in (rows es)) ≡ list_any (λ one. stays_under places es one && on-path q one.trigger) listed
    exact-paths q =
        rows-paths q es
        ∙ any-agree (λ e. job_slot_stays e && list_any (on-path q) (triggers_of e.def)) (own (λ one. stays_under places es one && on-path q one.trigger)) es
        (λ k e at. sym (if-stays (λ trigger number. on-path q trigger) k e at))
        ∙ sym (by-job_slots (λ one. stays_under places es one && on-path q one.trigger) es) ∙ sym (exact (λ one. stays_under places es one && on-path q one.trigger))

    pub none-after : (text : List ℕ) → ((j : ℕ) (one : Listed) → slice_get listed j ≡ Some one → is_behind (1 ∷ text) one ≡ true → stays_under places es one ≡ false) →
        list_any (is_before text) (paths_in (rows es)) ≡ false
    none-after text passed =
        exact-paths (is_before text)
        ∙ any-none (λ one. stays_under places es one && on-path (is_before text) one.trigger) listed
        (λ j one at. ap (λ b. stays_under places es one && b) (behind-path text one.trigger) ∙ one-fails (stays_under places es one) (is_behind (1 ∷ text) one) (passed j one at))

    module _ (order : AreOrdered listed) (text : List ℕ) (k : ℕ) (one : Listed) (at : slice_get listed k ≡ Some one) (behind : is_behind (1 ∷ text) one ≡ true) (stay : stays_under places es one ≡ true)
        (passed : (j : ℕ) (y : Listed) → slice_get listed j ≡ Some y → j < k → is_behind (1 ∷ text) y ≡ true → stays_under places es y ≡ false) where
      not-between : (path : List ℕ) → rank one.trigger ≡ 1 ∷ path → (j : ℕ) (y : Listed) → slice_get listed j ≡ Some y → (stays_under places es y && (is_behind (1 ∷ text) y && is_below (1 ∷ path) y)) ≡ false
      not-between path is j y there = go (nat_lt j k) refl (j == k) refl
        where
          farther : is_below (rank one.trigger) y ≡ false → (stays_under places es y && (is_behind (1 ∷ text) y && is_below (1 ∷ path) y)) ≡ false
          farther not_below = two-fail (stays_under places es y) (is_behind (1 ∷ text) y) (is_below (1 ∷ path) y) (ap (λ r. is_below r y) (sym is) ∙ not_below)

          go : (b : Bool) → nat_lt j k ≡ b → (c : Bool) → (j == k) ≡ c → (stays_under places es y && (is_behind (1 ∷ text) y && is_below (1 ∷ path) y)) ≡ false
          go true low c eq = three-fail (stays_under places es y) (is_behind (1 ∷ text) y) (is_below (1 ∷ path) y) (passed j y there (grind (arith, low)))
          go false low true eq =
              let same : k ≡ j = grind (arith, nat_tests, eq) in
              let found : Some one ≡ Some y = sym at ∙ ap (slice_get listed) same ∙ there in
              let equal : one ≡ y = cc in
              farther (ap (λ x. is_below (rank one.trigger) x) (sym equal) ∙ not-before-self (rank one.trigger))
          go false low false eq =
              let less : k < j = grind (arith, nat_tests, low, eq) in
              farther (in-order listed order k j one y less at there)

      next-at : (trigger : Trigger) → one.trigger ≡ trigger → IsNearestOf text (paths_in (rows es)) (path_in trigger)
      next-at (Minute None) is = let clash : true ≡ false = sym behind ∙ ap (λ t. is_before (1 ∷ text) (rank t)) is in absurd (cc clash)
      next-at (Minute (Some minute)) is = let clash : true ≡ false = sym behind ∙ ap (λ t. is_before (1 ∷ text) (rank t)) is in absurd (cc clash)
      next-at (Path path) is = record {
        among = exact-paths (is_same path) ∙ any-passes (λ x. stays_under places es x && on-path (is_same path) x.trigger) listed k one at
            (ap (λ t. stays_under places es one && on-path (is_same path) t) is ∙ (λ i. stay i && same_self path i));
        after = sym (ap (λ t. is_before (1 ∷ text) (rank t)) is) ∙ behind;
        nearest = exact-paths (λ other. is_before text other && is_before other path)
            ∙ any-none (λ x. stays_under places es x && on-path (λ other. is_before text other && is_before other path) x.trigger) listed
            (λ j y there. ap (λ b. stays_under places es y && b) (between-path text path y.trigger) ∙ not-between path (ap rank is) j y there);
      }

      pub next-found : IsNearestOf text (paths_in (rows es)) (path_in one.trigger)
      next-found = next-at one.trigger refl

-- one more was passed
pub pass-more : (places : List ℕ) (es : List JobSlot) (listed : List Listed) (text : List ℕ) (k : ℕ) (one : Listed) → slice_get listed k ≡ Some one → stays_under places es one ≡ false →
    ((j : ℕ) (y : Listed) → slice_get listed j ≡ Some y → j < k → is_behind (1 ∷ text) y ≡ true → stays_under places es y ≡ false) →
    (j : ℕ) (y : Listed) → slice_get listed j ≡ Some y → j < k + 1 → is_behind (1 ∷ text) y ≡ true → stays_under places es y ≡ false
pass-more places es listed text k one at going before j y there low behind = go (j == k) refl
  where
    go : (b : Bool) → (j == k) ≡ b → stays_under places es y ≡ false
    go true is =
        let same : k ≡ j = grind (arith, nat_tests, is) in
        let found : Some one ≡ Some y = sym at ∙ ap (slice_get listed) same ∙ there in
        let equal : one ≡ y = cc in
        subst (λ x. stays_under places es x ≡ false) equal going
    go false apart = before j y there (grind (arith, nat_tests, low, apart)) behind
