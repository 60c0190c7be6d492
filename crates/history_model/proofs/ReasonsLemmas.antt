-- A spawn is due exactly if no reason holds; and the reasons by the facts are those of the past.
use Rattle.std.proofs.Common.{◌≡◌, ℕ, ◌+◌, ◌-◌, ◌*◌, ◌/◌, ◌^◌, ◌<◌, ◌≤◌, max, Bool, true, false, not, ◌||◌, ◌&&◌, cond, Option, Some, None, is_some, List, [], ◌∷◌, ◌++◌, length, refl, sym, ap, ◌∙◌, subst, nat_lt, nat_le, arith}
use Rattle.std.specs.List.{filter, list_any}
use Rattle.std.specs.Option.{option_map}
use Rattle.std.proofs.lemmas.Bool.Decides.{nat_tests}
use Rattle.std.proofs.Math.Nat.{le-div_iff_mul-le}
use Rattle.std.specs.Option.{ForSome}
use Rattle.history_model.specs.declared.TheConstants.{SECOND}
use Rattle.history_model.specs.declared.Reading.{Reading}
use Rattle.history_model.specs.declared.Ended.{Ended}
use Rattle.history_model.specs.declared.Act.{Act}
use Rattle.history_model.specs.declared.Act.TheVariants.{Spawn, Term, Kill}
use Rattle.history_model.specs.declared.Ask.TheVariants.{Start, Stop, Unload, Shutdown, Kickstart}
use Rattle.history_model.specs.declared.reasons.DemandKind.{DemandKind}
use Rattle.history_model.specs.Items.{Definition, Item, Loaded, Saw, Asked, Read, History}
use Rattle.history_model.specs.Search.{first, or_else}
use Rattle.history_model.specs.Clock.{now, load_of, definition_of, moments, periods, crosses_interval}
use Rattle.history_model.specs.Kinds.{is_some_spawn, is_spawn_order, is_spawn_refusal, is_stopping_act}
use Rattle.history_model.specs.Runs.{runs, child, awaited, is_removed, is_stopped, is_struck}
use Rattle.history_model.specs.Demands.{fires, kind_in, kind_since, fired_since, is_spawned_order, latest_demand, is_pending, waiting, last_seen, interval_fires}
use Rattle.history_model.specs.Levels.{last_end, crash_of, end_holds, presence_holds, queue_holds, level_holds}
use Rattle.history_model.specs.Due.{is_within, is_throttled_at, is_throttled, is_wanted, has_ever_spawned, may_kill, may_term, due, due_beside}
use Rattle.history_model.specs.Refusals.{IsLawful}
use Rattle.history_model.specs.Moments.{later_by, next_period, HasPeriod}
use Rattle.history_model.specs.Facts.{Facts, facts_of}
use Rattle.history_model.specs.DueByFacts.{is_newest_within, is_throttled_by, is_wanted_by}
use Rattle.history_model.specs.Reasons.{state_that_holds, queue_that_holds, path_that_holds, exit_wants, crash_wants, wants_of, some_want, greatest, free_from, throttled_until, standing_child, reasons_of, some_reason, waits_alone, needs_event, is_none_or_stops, IsFirstFree, not_before, wanted_from, spawns_from}
use Rattle.history_model.specs.ReasonsByFacts.{path_by, wants_by, end_after, free_by, reasons_by, needs_by, wanted_from_by, spawns_from_by}
use Rattle.history_model.specs.NextMomentByFacts.{has_come, coming_period}
use Rattle.history_model.proofs.BooleanLemmas.{and-right, not-true, or-true, or-false-right}
use Rattle.history_model.proofs.ClockLemmas.{any-within}
use Rattle.history_model.proofs.ByFactsLemmas.{throttled-by, level-by}
use Rattle.history_model.proofs.SeenLemmas.{any-seen, first-seen, first-any}
use Rattle.history_model.specs.declared.Child.{Child}
use Rattle.history_model.specs.declared.LastEnd.{LastEnd}
use Rattle.history_model.specs.declared.definition.parts.PathState.{PathState}

-- ---- the throttle's end

lt-max : (up a b : ℕ) → nat_lt up (max a b) ≡ (nat_lt up a || nat_lt up b)
lt-max up a b = go (nat_lt up (max a b)) (nat_lt up a) (nat_lt up b) refl refl refl where
  go : (x y z : Bool) → nat_lt up (max a b) ≡ x → nat_lt up a ≡ y → nat_lt up b ≡ z → x ≡ (y || z)
  go true true z ex ey ez = refl
  go true false true ex ey ez = refl
  go true false false ex ey ez = absurd (grind (arith, nat_tests, ex, ey, ez))
  go false true z ex ey ez = absurd (grind (arith, nat_tests, ex, ey))
  go false false true ex ey ez = absurd (grind (arith, nat_tests, ex, ez))
  go false false false ex ey ez = refl

greatest-later : (wait up : ℕ) (us : List ℕ) → nat_lt up (greatest (later_by wait us)) ≡ list_any (is_within wait up) us
greatest-later wait up [] = grind (arith, nat_tests)
greatest-later wait up (u ∷ us) = lt-max up (u + wait) (greatest (later_by wait us)) ∙ ap (λ b. nat_lt up (u + wait) || b) (greatest-later wait up us)

greatest-++ : (ms ns : List ℕ) → greatest (ms ++ ns) ≡ max (greatest ms) (greatest ns)
greatest-++ [] ns = omega arith
greatest-++ (m ∷ ms) ns = let rest = greatest-++ ms ns in omega (arith, rest)

-- a moment is before the end exactly if the job is throttled at it
pub free-at : (up : ℕ) (t : History) → nat_lt up (free_from t) ≡ is_throttled_at up t
free-at up t =
    ap (nat_lt up) (greatest-++ (later_by (SECOND * (definition_of t).throttle_interval) (moments is_spawn_order t)) (later_by SECOND (moments is_spawn_refusal t)))
    ∙ lt-max up (greatest (later_by (SECOND * (definition_of t).throttle_interval) (moments is_spawn_order t))) (greatest (later_by SECOND (moments is_spawn_refusal t)))
    ∙ (λ i. greatest-later (SECOND * (definition_of t).throttle_interval) up (moments is_spawn_order t) i || greatest-later SECOND up (moments is_spawn_refusal t) i)

-- a number is known by those that are less
pub same-below : (a b : ℕ) → ((up : ℕ) → nat_lt up a ≡ nat_lt up b) → a ≡ b
same-below a b same = let at-a = same a in let at-b = same b in grind (arith, nat_tests, at-a, at-b)

end-after : (wait up : ℕ) (o : Option ℕ) → nat_lt up (end_after wait o) ≡ is_newest_within wait up o
end-after wait up None = grind (arith, nat_tests)
end-after wait up (Some moment) = refl

pub free-by-at : (f : Facts) (up : ℕ) → nat_lt up (free_by f) ≡ is_throttled_by f up
free-by-at f up =
    lt-max up (end_after (SECOND * f.definition.throttle_interval) f.spawn_ordered) (end_after SECOND f.spawn_refused)
    ∙ (λ i. end-after (SECOND * f.definition.throttle_interval) up f.spawn_ordered i || end-after SECOND up f.spawn_refused i)

-- whoever is after exactly the moments of the throttle is its end
pub free-unique : (f : Facts) (m : ℕ) → ((up : ℕ) → nat_lt up m ≡ is_throttled_by f up) → m ≡ free_by f
free-unique f m is = same-below m (free_by f) (λ up. is up ∙ sym (free-by-at f up))

free-by : (t : History) → IsLawful t → free_from t ≡ free_by (facts_of t)
free-by t lawful = free-unique (facts_of t) (free_from t) (λ up. free-at up t
    ∙ (λ i. any-within (SECOND * (definition_of t).throttle_interval) up is_spawn_order t lawful i || any-within SECOND up is_spawn_refusal t lawful i))

-- ---- what wants a job

some-first : (cs : List ℕ) → nat_lt 0 (length cs) ≡ is_some (first cs)
some-first [] = refl
some-first (c ∷ cs) = grind (arith, nat_tests)

end-wants : (d : Definition) (t : History) (o : Option LastEnd) → (exit_wants d.successful_exit o || crash_wants d.crashed (crash_of t o) o) ≡ end_holds d t o
end-wants d t None = refl
end-wants d t (Some end) = refl

wants-shape : (p c k s r a q : Bool) → (p || c || k || s || r || a || q) ≡ (p || c || (k || (s || r) || a || q))
wants-shape true c k s r a q = refl
wants-shape false true k s r a q = refl
wants-shape false false true s r a q = refl
wants-shape false false false true r a q = refl
wants-shape false false false false r a q = refl

-- something wants a job exactly if it is wanted
pub wanted : (t : History) → some_want (wants_of t) ≡ is_wanted t
wanted t =
    wants-shape (is_pending t) (nat_lt 0 (length (waiting t))) (definition_of t).keep_alive (exit_wants (definition_of t).successful_exit (last_end t))
    (crash_wants (definition_of t).crashed (crash_of t (last_end t)) (last_end t))
    (list_any (λ state. presence_holds state.present (last_seen state.path t)) (definition_of t).path_state)
    (list_any (λ path. queue_holds (last_seen path t)) (definition_of t).queue_directories)
    ∙ (λ i. is_pending t || some-first (waiting t) i || ((definition_of t).keep_alive || end-wants (definition_of t) t (last_end t) i
    || list_any (λ state. presence_holds state.present (last_seen state.path t)) (definition_of t).path_state
    || list_any (λ path. queue_holds (last_seen path t)) (definition_of t).queue_directories))

-- ---- whether a reason holds

is_some-map : {A B : Type 0} (f : A → B) (o : Option A) → is_some (option_map f o) ≡ is_some o
is_some-map f None = refl
is_some-map f (Some x) = refl

is_some-cond : (b : Bool) (m : ℕ) → is_some (cond b (Some m) None) ≡ b
is_some-cond true m = refl
is_some-cond false m = refl

-- a reason holds, by the seven tests
abbrev pub holds_of : (removed alive waits wanted throttled spent room : Bool) → Bool
holds_of removed alive waits wanted throttled spent room =
    removed || alive || waits || not wanted || throttled || spent || not room

pub reason-is : (t : History) →
    some_reason (reasons_of t)
    ≡ holds_of (is_removed t) (is_some (child t)) (is_some (awaited t)) (is_wanted t) (is_throttled t) ((definition_of t).launch_only_once && has_ever_spawned t) (nat_lt (runs t) (2 ^ 63))
reason-is t = λ i. is_removed t || is_some-map (standing_child (is_stopped t) (is_struck t)) (child t) i || is_some (awaited t) || not (wanted t i)
    || is_some-cond (is_throttled t) (free_from t) i || ((definition_of t).launch_only_once && has_ever_spawned t) || not (nat_lt (runs t) (2 ^ 63))

-- what is due by the same tests
abbrev due_of : (t : History) → Option Act → Option Child → (removed wanted throttled spent room : Bool) → Option Act
due_of t (Some act) c removed wanted throttled spent room = None
due_of t None (Some c) removed wanted throttled spent room = cond (may_kill c.run t) (Some (Kill c.run)) (cond (may_term c.run t) (Some (Term c.run)) None)
due_of t None None removed wanted throttled spent room =
    cond (not removed && wanted && not throttled && not spent && room) (Some (Spawn (runs t + 1) (first (waiting t)))) None

due-is : (t : History) → due t ≡ due_of t (awaited t) (child t) (is_removed t) (is_wanted t) (is_throttled t) ((definition_of t).launch_only_once && has_ever_spawned t) (nat_lt (runs t) (2 ^ 63))
due-is t = go (awaited t) (child t) where
  go : (a : Option Act) (c : Option Child) → cond (is_some a) None (due_beside c t) ≡ due_of t a c (is_removed t) (is_wanted t) (is_throttled t) ((definition_of t).launch_only_once && has_ever_spawned t) (nat_lt (runs t) (2 ^ 63))
  go (Some act) c = refl
  go None (Some c) = refl
  go None None = refl

stops-none : (k m : Bool) (r : ℕ) → is_some_spawn (cond k (Some (Kill r)) (cond m (Some (Term r)) None)) ≡ false
stops-none true m r = refl
stops-none false true r = refl
stops-none false false r = refl

-- a spawn is due exactly if no reason holds
pub spawn-due : (t : History) → is_some_spawn (due t) ≡ not (some_reason (reasons_of t))
spawn-due t = ap is_some_spawn (due-is t)
    ∙ go (awaited t) (child t) (is_removed t) (is_wanted t) (is_throttled t) ((definition_of t).launch_only_once && has_ever_spawned t) (nat_lt (runs t) (2 ^ 63))
    ∙ ap not (sym (reason-is t)) where
      go : (a : Option Act) (c : Option Child) (r w h o n : Bool) → is_some_spawn (due_of t a c r w h o n) ≡ not (holds_of r (is_some c) (is_some a) w h o n)
      go (Some act) c true w h o n = refl
      go (Some act) None false w h o n = refl
      go (Some act) (Some c) false w h o n = refl
      go None (Some c) true w h o n = stops-none (may_kill c.run t) (may_term c.run t) c.run
      go None (Some c) false w h o n = stops-none (may_kill c.run t) (may_term c.run t) c.run
      go None None true w h o n = refl
      go None None false false h o n = refl
      go None None false true true o n = refl
      go None None false true false true n = refl
      go None None false true false false true = refl
      go None None false true false false false = refl

-- and then it is that of the next run, with the first connection
pub spawn-is : (t : History) → some_reason (reasons_of t) ≡ false → due t ≡ Some (Spawn (runs t + 1) (first (waiting t)))
spawn-is t none = due-is t
    ∙ go (awaited t) (child t) (is_removed t) (is_wanted t) (is_throttled t) ((definition_of t).launch_only_once && has_ever_spawned t) (nat_lt (runs t) (2 ^ 63)) (sym (reason-is t) ∙ none) where
      go : (a : Option Act) (c : Option Child) (r w h o n : Bool) → holds_of r (is_some c) (is_some a) w h o n ≡ false → due_of t a c r w h o n ≡ Some (Spawn (runs t + 1) (first (waiting t)))
      go a c true w h o n e = cc
      go a (Some c) false w h o n e = cc
      go (Some act) None false w h o n e = cc
      go None None false false h o n e = cc
      go None None false true true o n e = cc
      go None None false true false true n e = cc
      go None None false true false false false e = cc
      go None None false true false false true e = refl

self-stops : (k m : Bool) (c : Child) → is_none_or_stops (Some c) (cond k (Some (Kill c.run)) (cond m (Some (Term c.run)) None)) ≡ true
self-stops true m c = grind (arith, nat_tests)
self-stops false true c = grind (arith, nat_tests)
self-stops false false c = refl

-- with a reason there is no order but one that ends the child
pub stop-due : (t : History) → some_reason (reasons_of t) ≡ true → is_none_or_stops (child t) (due t) ≡ true
stop-due t some = ap (is_none_or_stops (child t)) (due-is t)
    ∙ go (awaited t) (child t) (is_removed t) (is_wanted t) (is_throttled t) ((definition_of t).launch_only_once && has_ever_spawned t) (nat_lt (runs t) (2 ^ 63)) (sym (reason-is t) ∙ some) where
      go : (a : Option Act) (c : Option Child) (r w h o n : Bool) → holds_of r (is_some c) (is_some a) w h o n ≡ true → is_none_or_stops c (due_of t a c r w h o n) ≡ true
      go (Some act) c r w h o n e = refl
      go None (Some c) r w h o n e = self-stops (may_kill c.run t) (may_term c.run t) c
      go None None true w h o n e = refl
      go None None false false h o n e = refl
      go None None false true true o n e = refl
      go None None false true false true n e = refl
      go None None false true false false false e = refl
      go None None false true false false true e = cc

-- a job that gives nothing has a reason
pub idle-reason : (t : History) → due t ≡ None → some_reason (reasons_of t) ≡ true
idle-reason t idle = go (some_reason (reasons_of t)) (sym (ap is_some_spawn idle) ∙ spawn-due t) where
  go : (b : Bool) → false ≡ not b → b ≡ true
  go true e = refl
  go false e = cc

-- ---- the reasons by the facts

wants-by : (t : History) → wants_of t ≡ wants_by (facts_of t)
wants-by t = λ i. record (wants_of t) {
  path_state = any-seen (λ (state : PathState). presence_holds state.present) (λ state. last_seen state.path t) (definition_of t).path_state i;
  queue_directories = any-seen (λ (path : List ℕ). queue_holds) (λ path. last_seen path t) (definition_of t).queue_directories i;
}

pub reasons-by : (t : History) → IsLawful t → reasons_of t ≡ reasons_by (facts_of t) (now t).up
reasons-by t lawful = λ i. record (reasons_of t) {
  wants = wants-by t i;
  throttled_until = cond (throttled-by t lawful i) (Some (free-by t lawful i)) None;
}

-- ---- a job that only the throttle keeps

-- no other reason holds
others : (t : History) → waits_alone (reasons_of t) ≡ true →
    holds_of (is_removed t) (is_some (child t)) (is_some (awaited t)) (is_wanted t) false ((definition_of t).launch_only_once && has_ever_spawned t) (nat_lt (runs t) (2 ^ 63)) ≡ false
others t alone =
    sym (λ i. is_removed t || is_some-map (standing_child (is_stopped t) (is_struck t)) (child t) i || is_some (awaited t) || not (wanted t i)
    || false || ((definition_of t).launch_only_once && has_ever_spawned t) || not (nat_lt (runs t) (2 ^ 63)))
    ∙ not-true (some_reason (record (reasons_of t) { throttled_until = None }))
    (and-right (is_some (throttled_until t)) (not (some_reason (record (reasons_of t) { throttled_until = None }))) alone)

only-throttle : (r c a w w' h o n : Bool) → (w ≡ true → w' ≡ true) → holds_of r c a w false o n ≡ false → not (holds_of r c a w' h o n) ≡ not h
only-throttle true c a w w' h o n more e = cc
only-throttle false true a w w' h o n more e = cc
only-throttle false false true w w' h o n more e = cc
only-throttle false false false false w' h o n more e = cc
only-throttle false false false true w' h true n more e = cc
only-throttle false false false true w' h false false more e = cc
only-throttle false false false true w' true false true more e = rw (more refl) refl
only-throttle false false false true w' false false true more e = rw (more refl) refl

-- a clock reading takes away nothing that wants the job
still-wanted : (fires p c l : Bool) → (p || c || l) ≡ true → ((fires || p) || c || l) ≡ true
still-wanted true p c l e = refl
still-wanted false p c l e = e

not-below : (up m : ℕ) → not (nat_lt up m) ≡ nat_le m up
not-below up m = go (nat_lt up m) (nat_le m up) refl refl where
  go : (x y : Bool) → nat_lt up m ≡ x → nat_le m up ≡ y → not x ≡ y
  go true false ex ey = refl
  go false true ex ey = refl
  go true true ex ey = absurd (grind (arith, nat_tests, ex, ey))
  go false false ex ey = absurd (grind (arith, nat_tests, ex, ey))

-- its spawn is due at a clock reading exactly if the clock reading is not before the throttle's end
pub alone-due : (at : Reading) (calendar : Bool) (t : History) → waits_alone (reasons_of t) ≡ true → is_some_spawn (due (Read at calendar ∷ t)) ≡ nat_le (free_from t) at.up
alone-due at calendar t alone =
    spawn-due (Read at calendar ∷ t) ∙ ap not (reason-is (Read at calendar ∷ t))
    ∙ only-throttle (is_removed t) (is_some (child t)) (is_some (awaited t)) (is_wanted t) (is_wanted (Read at calendar ∷ t)) (is_throttled_at at.up t)
    ((definition_of t).launch_only_once && has_ever_spawned t) (nat_lt (runs t) (2 ^ 63))
    (still-wanted (calendar || interval_fires t at) (is_pending t) (is_some (first (waiting t))) (level_holds t)) (others t alone)
    ∙ ap not (sym (free-at at.up t)) ∙ not-below at.up (free_from t)

pub told : (t : History) → is_some (throttled_until t) ≡ is_throttled t
told t = is_some-cond (is_throttled t) (free_from t)

-- the moment that is reported is the throttle's end
end-told : (t : History) (m : ℕ) → throttled_until t ≡ Some m → free_from t ≡ m
end-told t m is = go (is_throttled t) is where
  go : (b : Bool) → cond b (Some (free_from t)) None ≡ Some m → free_from t ≡ m
  go true e = cc
  go false e = cc

pub first-free : (t : History) (m : ℕ) → throttled_until t ≡ Some m → IsFirstFree t m
first-free t m is = let end = end-told t m is in subst (IsFirstFree t) end (free, kept) where
  free : is_throttled_at (free_from t) t ≡ false
  free = let at = free-at (free_from t) t in sym at ∙ grind (arith, nat_tests)

  kept : (up : ℕ) → up < free_from t → is_throttled_at up t ≡ true
  kept up less = let at = free-at up t in sym at ∙ grind (arith, nat_tests, less)

pub next-due : (t : History) (m : ℕ) (at : Reading) (calendar : Bool) → waits_alone (reasons_of t) ≡ true → throttled_until t ≡ Some m →
    is_some_spawn (due (Read at calendar ∷ t)) ≡ nat_le m at.up
next-due t m at calendar alone is = alone-due at calendar t alone ∙ ap (λ n. nat_le n at.up) (end-told t m is)

-- ---- clock readings alone

needs-is : (t : History) → needs_event (reasons_of t)
    ≡ (is_removed t || is_some (child t) || is_some (awaited t) || ((definition_of t).launch_only_once && has_ever_spawned t) || not (nat_lt (runs t) (2 ^ 63)))
needs-is t = λ i. is_removed t || is_some-map (standing_child (is_stopped t) (is_struck t)) (child t) i || is_some (awaited t)
    || ((definition_of t).launch_only_once && has_ever_spawned t) || not (nat_lt (runs t) (2 ^ 63))

wanted-then : (calendar crossed p c l : Bool) → (((calendar || crossed) || p) || c || l) ≡ (calendar || crossed || (p || c || l))
wanted-then true crossed p c l = refl
wanted-then false true p c l = refl
wanted-then false false p c l = refl

no-reason : (r c a w h o n : Bool) → not (holds_of r c a w h o n) ≡ (not (r || c || a || o || not n) && w && not h)
no-reason true c a w h o n = refl
no-reason false true a w h o n = refl
no-reason false false true w h o n = refl
no-reason false false false false h true n = refl
no-reason false false false false h false true = refl
no-reason false false false false h false false = refl
no-reason false false false true true true n = refl
no-reason false false false true true false true = refl
no-reason false false false true true false false = refl
no-reason false false false true false true n = refl
no-reason false false false true false false true = refl
no-reason false false false true false false false = refl

pub reading-due : (t : History) (at : Reading) (calendar : Bool) → is_some_spawn (due (Read at calendar ∷ t))
    ≡ (not (needs_event (reasons_of t)) && (calendar || interval_fires t at || is_wanted t) && nat_le (free_from t) at.up)
reading-due t at calendar =
    spawn-due (Read at calendar ∷ t) ∙ ap not (reason-is (Read at calendar ∷ t))
    ∙ no-reason (is_removed t) (is_some (child t)) (is_some (awaited t)) (is_wanted (Read at calendar ∷ t)) (is_throttled_at at.up t)
    ((definition_of t).launch_only_once && has_ever_spawned t) (nat_lt (runs t) (2 ^ 63))
    ∙ (λ i. not (sym (needs-is t) i) && wanted-then calendar (interval_fires t at) (is_pending t) (is_some (first (waiting t))) (level_holds t) i
    && (ap not (sym (free-at at.up t)) ∙ not-below at.up (free_from t)) i)

-- ---- and the moment from which one makes the spawn due

period-reached : (seconds load previous up : ℕ) → 0 < seconds →
    nat_lt (periods seconds (previous - load)) (periods seconds (up - load)) ≡ nat_le (load + SECOND * seconds * (periods seconds (previous - load) + 1)) up
period-reached seconds load previous up positive = go (nat_lt k (periods seconds (up - load))) (nat_le (load + SECOND * seconds * (k + 1)) up) refl refl where
  k : ℕ
  k = periods seconds (previous - load)

  some : 0 < SECOND * seconds
  some = omega (arith, positive)

  go : (x y : Bool) → nat_lt (periods seconds (previous - load)) (periods seconds (up - load)) ≡ x →
      nat_le (load + SECOND * seconds * (periods seconds (previous - load) + 1)) up ≡ y → x ≡ y
  go true true ex ey = refl
  go false false ex ey = refl
  go true false ex ey =
      let more : periods seconds (previous - load) + 1 ≤ (up - load) / (SECOND * seconds) = grind (arith, nat_tests, ex) in
      let whole : (periods seconds (previous - load) + 1) * (SECOND * seconds) ≤ up - load = (le-div_iff_mul-le some).0 more in
      let late : up < load + SECOND * seconds * (periods seconds (previous - load) + 1) = grind (arith, nat_tests, ey) in
      absurd (omega (arith, whole, late, some))
  go false true ex ey =
      let reached : load + SECOND * seconds * (periods seconds (previous - load) + 1) ≤ up = grind (arith, nat_tests, ey) in
      let whole : (periods seconds (previous - load) + 1) * (SECOND * seconds) ≤ up - load = omega (arith, reached) in
      let more : periods seconds (previous - load) + 1 ≤ (up - load) / (SECOND * seconds) = (le-div_iff_mul-le some).1 whole in
      absurd (grind (arith, nat_tests, ex, more))

crossed-from : (o : Option ℕ) (load previous up : ℕ) → ForSome o (λ seconds. 0 < seconds) → crosses_interval o load previous up ≡ has_come (first (next_period o load previous)) up
crossed-from None load previous up positive = refl
crossed-from (Some seconds) load previous up positive = period-reached seconds load previous up (positive seconds refl)

le-max : (a b up : ℕ) → (nat_le b up && nat_le a up) ≡ nat_le (max a b) up
le-max a b up = go (nat_le b up) (nat_le a up) (nat_le (max a b) up) refl refl refl where
  go : (x y z : Bool) → nat_le b up ≡ x → nat_le a up ≡ y → nat_le (max a b) up ≡ z → (x && y) ≡ z
  go true true true ex ey ez = refl
  go true true false ex ey ez = absurd (grind (arith, nat_tests, ex, ey, ez))
  go true false false ex ey ez = refl
  go true false true ex ey ez = absurd (grind (arith, nat_tests, ey, ez))
  go false y false ex ey ez = refl
  go false y true ex ey ez = absurd (grind (arith, nat_tests, ex, ez))

from-max : (free up : ℕ) (o : Option ℕ) → (has_come o up && nat_le free up) ≡ has_come (not_before free o) up
from-max free up None = refl
from-max free up (Some m) = le-max free m up

-- a job that is wanted is so at every moment
or-wanted : (crossed w : Bool) (o : Option ℕ) (up : ℕ) → crossed ≡ has_come o up → (crossed || w) ≡ has_come (cond w (Some 0) o) up
or-wanted crossed true o up e = or-true crossed ∙ sym (let zero_first : nat_le 0 up ≡ true = grind (arith, nat_tests) in zero_first)
or-wanted crossed false o up e = or-false-right crossed ∙ e

pub moment-due : (t : History) (at : Reading) → HasPeriod t → is_some_spawn (due (Read at false ∷ t)) ≡ has_come (spawns_from t) at.up
moment-due t at positive = reading-due t at false
    ∙ (λ i. not (needs_event (reasons_of t)) && or-wanted (interval_fires t at) (is_wanted t) (first (next_period (definition_of t).start_interval (load_of t).at.up (now t).up)) at.up
    (crossed-from (definition_of t).start_interval (load_of t).at.up (now t).up at.up positive) i && nat_le (free_from t) at.up)
    ∙ go (needs_event (reasons_of t)) where
      go : (b : Bool) → (not b && has_come (wanted_from t) at.up && nat_le (free_from t) at.up) ≡ has_come (cond b None (not_before (free_from t) (wanted_from t))) at.up
      go true = refl
      go false = from-max (free_from t) at.up (wanted_from t)

-- ---- that moment by the facts

wanted-by : (t : History) → is_wanted t ≡ is_wanted_by (facts_of t)
wanted-by t = ap (λ l. is_pending t || is_some (first (waiting t)) || l) (level-by t)

pub spawns-by : (t : History) → IsLawful t → spawns_from t ≡ spawns_from_by (facts_of t) (now t).up
spawns-by t lawful = λ i. cond (needs-is t i) None (not_before (free-by t lawful i)
    (cond (wanted-by t i) (Some 0) (first (next_period (definition_of t).start_interval (load_of t).at.up (now t).up))))

-- ---- which path, and which demand

pub path-by : (t : History) → path_that_holds t ≡ path_by (facts_of t)
path-by t = λ i. or_else
    (option_map (λ state. state.path) (first-seen (λ (state : PathState). presence_holds state.present) (λ state. last_seen state.path t) (definition_of t).path_state i))
    (first-seen (λ (path : List ℕ). queue_holds) (λ path. last_seen path t) (definition_of t).queue_directories i)

is_some-or : {A : Type 0} (a b : Option A) → is_some (or_else a b) ≡ (is_some a || is_some b)
is_some-or None b = refl
is_some-or (Some x) b = refl

some-path : {A B : Type 0} (f : A → B) (o : Option A) → is_some (option_map f o) ≡ is_some o
some-path f None = refl
some-path f (Some x) = refl

-- there is such a path exactly if a condition on a path, or a queue directory, wants the job
pub path-told : (t : History) → is_some (path_that_holds t) ≡ ((reasons_of t).wants.path_state || (reasons_of t).wants.queue_directories)
path-told t = is_some-or (state_that_holds t) (queue_that_holds t)
    ∙ (λ i. (some-path (λ (state : PathState). state.path) (first (filter (λ (state : PathState). presence_holds state.present (last_seen state.path t)) (definition_of t).path_state))
    ∙ first-any (λ (state : PathState). presence_holds state.present (last_seen state.path t)) (definition_of t).path_state) i
    || first-any (λ path. queue_holds (last_seen path t)) (definition_of t).queue_directories i)

-- an item that is a demand is of some kind
fires-kind : (x : Item) (t : History) → fires x t ≡ true → is_some (kind_in x) ≡ true
fires-kind (Loaded d at) t e = refl
fires-kind (Read at calendar) t e = refl
fires-kind (Saw path obs) t e = refl
fires-kind (Asked Start) t e = refl
fires-kind (Asked (Kickstart kills_first)) t e = refl
fires-kind (Asked Stop) t e = cc
fires-kind (Asked Unload) t e = cc
fires-kind (Asked Shutdown) t e = cc
fires-kind _ t e = cc

kind-told : (passes : Item → Bool) (t : History) → is_some (kind_since passes t) ≡ fired_since passes t
kind-told passes [] = refl
kind-told passes (x ∷ t) = go (passes x) (fires x t) refl (kind-told passes t) where
  go : (p f : Bool) → fires x t ≡ f → is_some (kind_since passes t) ≡ fired_since passes t → is_some (cond p None (cond f (kind_in x) (kind_since passes t))) ≡ (not p && (f || fired_since passes t))
  go true f e rest = refl
  go false true e rest = fires-kind x t e
  go false false e rest = rest

-- a demand is pending exactly if its kind is reported
pub demand-told : (t : History) → is_some (latest_demand t) ≡ (reasons_of t).wants.demand
demand-told t = kind-told (is_spawned_order t) t
