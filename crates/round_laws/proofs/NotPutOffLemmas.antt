-- What does not happen to a job puts its start off at no event.
use Rattle.std.proofs.Common.{◌≡◌, ◌⊎◌, inl, inr, ℕ, ◌*◌, ◌-◌, Bool, true, false, not, ◌||◌, ◌&&◌, cond, Option, Some, None, is_some, List, [], ◌∷◌, ◌++◌, map, refl, sym, ap, subst, ◌∙◌, ◌+◌, ◌^◌, nat_lt, nat_le, arith}
use Rattle.std.specs.Prelude.{unwrap_or, Result, Ok, Err}
use Rattle.std.specs.List.{filter, filter_map, flat_map, AllByRecursion}
use Rattle.std.specs.Option.{option_map}
use Rattle.std.specs.Cmp.Lexicographic.{same_text}
use Rattle.std.proofs.lemmas.List.{append-nil}
use Rattle.std.proofs.lemmas.Bool.Decides.{nat_tests}
use Rattle.history_model.specs.declared.Act.{Act}
use Rattle.history_model.specs.declared.Act.TheVariants.{Spawn}
use Rattle.history_model.specs.declared.Obs.{Obs}
use Rattle.history_model.specs.declared.Reading.{Reading}
use Rattle.history_model.specs.declared.Refusal.{Refusal}
use Rattle.history_model.specs.declared.Child.{Child}
use Rattle.history_model.specs.declared.reasons.Reasons.{Reasons}
use Rattle.history_model.specs.Items.{Definition, Item, Read, Saw, History}
use Rattle.history_model.specs.Search.{first}
use Rattle.history_model.specs.Clock.{definition_of, load_of, now, periods, crosses_interval}
use Rattle.history_model.specs.Calendar.{calendar_fires}
use Rattle.history_model.specs.Kinds.{is_some_spawn}
use Rattle.history_model.specs.Runs.{runs, child, awaited, is_gone, is_removed, is_busy, is_stopped, is_struck}
use Rattle.history_model.specs.Demands.{waiting, interval_fires, is_pending}
use Rattle.history_model.specs.Levels.{level_holds}
use Rattle.history_model.specs.Due.{due, is_wanted, has_ever_spawned}
use Rattle.history_model.specs.Labels.{Label, is_before}
use Rattle.history_model.specs.Machine.{State, Job, Event, Unreadable, Load, UnloadJob, Set, ListJobs, PrintJob, ShutDown, Tick, Observation, OfJob, is_of, past_in}
use Rattle.history_model.specs.MachineLaws.{is_for, concerns, only, AreInOrder, labels_of}
use Rattle.history_model.specs.Moments.{HasPeriod}
use Rattle.history_model.specs.NextMomentByFacts.{has_come}
use Rattle.history_model.specs.Reasons.{free_from, reasons_of, some_reason, needs_event, is_none_or_stops, standing_child, spawns_from, wanted_from, not_before}
use Rattle.history_model.specs.Acceptance.{refusal_in}
use Rattle.history_model.specs.Step.{with_item, received, lists, observation_of, acts_of, orders_of, stays, taken, outcome_by, outcome, orders_in, step_by, step, run}
use Rattle.history_model.proofs.BooleanLemmas.{or-true, not-false}
use Rattle.history_model.proofs.ReasonsLemmas.{spawn-due, stop-due, reading-due, moment-due}
use Rattle.history_model.proofs.StepLemmas.{Rests, IsGood, good-step}
use Rattle.history_model.proofs.OneLabelLemmas.{filter-received, filter-stays, filter-orders, step-other, orders-other, resting-only}
use Rattle.loaded_jobs.proofs.NearestLemmas.{not-before-self}
use Rattle.round_laws.specs.DueStarts.{IsDueAt, LeavesAlone, start_of}
use Rattle.round_laws.proofs.DueStartsLemmas.{acts-due, own-filter}

-- ---- a clock reading puts no start off

record IsLate (n i w f : Bool) : Type 0 where
  free_of_events : n ≡ false
  wants : (i || w) ≡ true
  free : f ≡ true

late-parts : (n i w f : Bool) → (not n && (false || i || w) && f) ≡ true → IsLate n i w f
late-parts true i w f e = cc
late-parts false false false f e = cc
late-parts false true w f e = record { free_of_events = refl; wants = refl; free = e }
late-parts false false true f e = record { free_of_events = refl; wants = refl; free = e }

late-whole : (n i w f : Bool) → IsLate n i w f → (not n && (false || i || w) && f) ≡ true
late-whole n i w f l = rw (l.free_of_events, l.wants, l.free) refl

is_some-map : {A B : Type 0} (f : A → B) (o : Option A) → is_some (option_map f o) ≡ is_some o
is_some-map f None = refl
is_some-map f (Some x) = refl

needs-is : (t : History) → needs_event (reasons_of t)
    ≡ (is_removed t || is_some (child t) || is_some (awaited t) || ((definition_of t).launch_only_once && has_ever_spawned t) || not (nat_lt (runs t) (2 ^ 63)))
needs-is t = λ i. is_removed t || is_some-map (standing_child (is_stopped t) (is_struck t)) (child t) i || is_some (awaited t)
    || ((definition_of t).launch_only_once && has_ever_spawned t) || not (nat_lt (runs t) (2 ^ 63))

needs-parts : (a b c d e : Bool) → (a || b || c || d || e) ≡ false → (a ≡ false) × (b ≡ false)
needs-parts true b c d e none = cc
needs-parts false true c d e none = cc
needs-parts false false c d e none = (refl, refl)

lt-on : (x y z : ℕ) → nat_lt x z ≡ true → nat_lt x y ≡ false → nat_lt y z ≡ true
lt-on x y z later same = grind (arith, nat_tests, later, same)

-- a period that ends by the one time and has not ended by the other time ends between them
cross-on : (o : Option ℕ) (load a b c : ℕ) → crosses_interval o load a c ≡ true → crosses_interval o load a b ≡ false → crosses_interval o load b c ≡ true
cross-on None load a b c later none = cc
cross-on (Some seconds) load a b c later none = lt-on (periods seconds (a - load)) (periods seconds (b - load)) (periods seconds (c - load)) later none

wanted-after : (c f p w l : Bool) → (f || (p || w || l)) ≡ true → (((c || f) || p) || w || l) ≡ true
wanted-after true f p w l e = refl
wanted-after false true p w l e = refl
wanted-after false false p w l e = e

late-on : (t : History) (at mid : Reading) (c : Bool) → HasPeriod t → has_come (spawns_from t) at.up ≡ true → has_come (spawns_from (Read mid c ∷ t)) at.up ≡ true
late-on t at mid c period come =
    sym (moment-due u at period) ∙ reading-due u at false ∙ late-whole (needs_event (reasons_of u)) (interval_fires u at) (is_wanted u) (nat_le (free_from u) at.up) (record {
      free_of_events = needs-is u ∙ sym (needs-is t) ∙ l.free_of_events;
      wants = go (interval_fires t mid) (is_wanted t) refl refl;
      free = l.free;
    }) where
      u : History
      u = Read mid c ∷ t

      l : IsLate (needs_event (reasons_of t)) (interval_fires t at) (is_wanted t) (nat_le (free_from t) at.up)
      l = late-parts (needs_event (reasons_of t)) (interval_fires t at) (is_wanted t) (nat_le (free_from t) at.up) (sym (reading-due t at false) ∙ moment-due t at period ∙ come)

      after : (interval_fires t mid || is_wanted t) ≡ true → is_wanted u ≡ true
      after = wanted-after c (interval_fires t mid) (is_pending t) (is_some (first (waiting t))) (level_holds t)

      only-interval : (i w : Bool) → (i || w) ≡ true → w ≡ false → i ≡ true
      only-interval true w e none = refl
      only-interval false true e none = cc
      only-interval false false e none = cc

      go : (f w : Bool) → interval_fires t mid ≡ f → is_wanted t ≡ w → (interval_fires u at || is_wanted u) ≡ true
      go true w fires is = ap (λ b. interval_fires u at || b) (after (ap (λ b. b || is_wanted t) fires)) ∙ or-true (interval_fires u at)
      go false true fires is = ap (λ b. interval_fires u at || b) (after (ap (λ b. interval_fires t mid || b) is ∙ or-true (interval_fires t mid))) ∙ or-true (interval_fires u at)
      go false false fires is =
          ap (λ b. b || is_wanted u) (cross-on (definition_of t).start_interval (load_of t).at.up (now t).up mid.up at.up (only-interval (interval_fires t at) (is_wanted t) l.wants is) fires)

-- a job that needs no event and is not started at a clock reading does nothing at it
none-due : (c : Option Child) (o : Option Act) → is_some c ≡ false → is_none_or_stops c o ≡ true → o ≡ None
none-due None None alone is = refl
none-due None (Some act) alone is = cc
none-due (Some c) o alone is = cc

record IsIdle (u : History) : Type 0 where
  idle : due u ≡ None
  staying : is_gone u ≡ false

some-not : (b : Bool) → false ≡ not b → b ≡ true
some-not true e = refl
some-not false e = cc

idle-at : (t : History) (mid : Reading) (c : Bool) → needs_event (reasons_of t) ≡ false → is_some_spawn (due (Read mid c ∷ t)) ≡ false → IsIdle (Read mid c ∷ t)
idle-at t mid c needs none =
    let u = Read mid c ∷ t in
    let parts = needs-parts (is_removed t) (is_some (child t)) (is_some (awaited t)) ((definition_of t).launch_only_once && has_ever_spawned t) (not (nat_lt (runs t) (2 ^ 63))) (sym (needs-is t) ∙ needs) in
    record {
      idle = none-due (child u) (due u) parts.1 (stop-due u (some-not (some_reason (reasons_of u)) (sym none ∙ spawn-due u)));
      staying = ap (λ b. b && not (is_busy u)) parts.0;
    }

-- ---- one label's only job

none-after : (label : Label) (job : Job) (jobs : List Job) → is_of label job ≡ true → AllByRecursion (λ other. is_before job.label other ≡ true) (labels_of jobs) → filter (is_of label) jobs ≡ []
none-after label job [] own all = refl
none-after label job (x ∷ xs) own all = go (is_of label x) refl (none-after label job xs own all.1) where
  go : (b : Bool) → is_of label x ≡ b → filter (is_of label) xs ≡ [] → cond b (x ∷ filter (is_of label) xs) (filter (is_of label) xs) ≡ []
  go false is rest = rest
  go true is rest =
      let same : x.label ≡ job.label = sym (same_text label x.label (sym is)) ∙ same_text label job.label (sym own) in
      let clash : true ≡ false = sym all.0 ∙ ap (λ l. is_before job.label l) same ∙ not-before-self job.label in cc

-- the label's job is there once
record IsAlone (label : Label) (jobs : List Job) (t : History) : Type 0 where
  job : Job
  alone : filter (is_of label) jobs ≡ job ∷ []
  past : job.past ≡ t

alone-of : (label : Label) (jobs : List Job) → AreInOrder (labels_of jobs) → (t : History) → past_in (first (filter (is_of label) jobs)) ≡ Some t → IsAlone label jobs t
alone-of label [] order t there = cc
alone-of label (job ∷ jobs) order t there = go (is_of label job) refl (alone-of label jobs order.1 t) there where
  go : (b : Bool) → is_of label job ≡ b → (past_in (first (filter (is_of label) jobs)) ≡ Some t → IsAlone label jobs t) → past_in (first (cond b (job ∷ filter (is_of label) jobs) (filter (is_of label) jobs))) ≡ Some t → IsAlone label (job ∷ jobs) t
  go true is rest at = record {
    job = job;
    alone = rw is (ap (λ (js : List Job). job ∷ js) (none-after label job jobs is order.0));
    past = ap (λ (o : Option History). unwrap_or o t) at;
  }
  go false is rest at = let r = rest at in record { job = r.job; alone = rw is r.alone; past = r.past }

filter-both : {X : Type 0} (p : X → Bool) (xs ys : List X) → filter p (xs ++ ys) ≡ filter p xs ++ filter p ys
filter-both p [] ys = refl
filter-both {X} p (x ∷ xs) ys = go (filter-both p xs ys) (p x) where
  go : filter p (xs ++ ys) ≡ filter p xs ++ filter p ys → (b : Bool) → cond b (x ∷ filter p (xs ++ ys)) (filter p (xs ++ ys)) ≡ cond b (x ∷ filter p xs) (filter p xs) ++ filter p ys
  go rest true = ap (λ (l : List X). x ∷ l) rest
  go rest false = rest

-- its start is due at the clock reading, if nothing happens to it meanwhile
record Waits (s : State) (label : Label) (t : History) (at : Reading) : Type 0 where
  its : IsAlone label s.jobs t
  period : HasPeriod t
  late_enough : has_come (spawns_from t) at.up ≡ true

-- it waits still, with the same next run, the same connections and the same definition
record WaitsOn (s : State) (label : Label) (t : History) (at : Reading) : Type 0 where
  later : History
  waits : Waits s label later at
  start : start_of label later ≡ start_of label t
  definition : definition_of later ≡ definition_of t

-- by these orders it was started, or it waits on
abbrev pub IsStartedOr : Label → History → List (Label × Act) → Type 0 → Type 0
IsStartedOr label t orders W = (first (filter (is_for label) orders) ≡ Some (start_of label t)) ⊎ ((filter (is_for label) orders ≡ []) × W)

module _ (label : Label) (at : Reading) where
  -- what the events that a step hears make of the label's only job
  orders-alone : (s : State) (e : Event) (item : Job → Option Item) (job : Job) → refusal_in s e ≡ None → (taken s e).jobs ≡ received item s.jobs → filter (is_of label) s.jobs ≡ job ∷ [] →
      filter (is_for label) (outcome s e).orders ≡ orders_of (with_item job (item job)) ++ []
  orders-alone s e item job accepted receives alone =
      ap (λ o. filter (is_for label) (outcome_by o s e).orders) accepted
      ∙ filter-orders label (taken s e).jobs
      ∙ ap (λ (js : List Job). flat_map orders_of (filter (is_of label) js)) receives
      ∙ ap (flat_map orders_of) (filter-received label item s.jobs)
      ∙ ap (λ (js : List Job). flat_map orders_of (received item js)) alone

  jobs-alone : (s : State) (e : Event) (item : Job → Option Item) (job : Job) → refusal_in s e ≡ None → (taken s e).jobs ≡ received item s.jobs → filter (is_of label) s.jobs ≡ job ∷ [] →
      is_gone (with_item job (item job)).past ≡ false → due (with_item job (item job)).past ≡ None → filter (is_of label) (step s e).jobs ≡ with_item job (item job) ∷ []
  jobs-alone s e item job accepted receives alone staying idle =
      ap (λ o. filter (is_of label) (step_by o s e).jobs) accepted
      ∙ filter-stays label (taken s e).jobs
      ∙ ap (λ (js : List Job). filter_map stays (filter (is_of label) js)) receives
      ∙ ap (filter_map stays) (filter-received label item s.jobs)
      ∙ ap (λ (js : List Job). filter_map stays (received item js)) alone
      ∙ rw (staying, idle) refl

  idle-orders : (job : Job) → is_gone job.past ≡ false → due job.past ≡ None → orders_of job ++ [] ≡ []
  idle-orders job staying idle = rw (staying, idle) refl

  -- an event that does nothing to the job
  stays-same : (s : State) (e : Event) (t : History) → Waits s label t at → filter (is_for label) (outcome s e).orders ≡ [] → filter (is_of label) (step s e).jobs ≡ filter (is_of label) s.jobs →
      IsStartedOr label t (outcome s e).orders (WaitsOn (step s e) label t at)
  stays-same s e t w none same = inr (
    none,
    record {
      later = t;
      waits = record { its = record { job = w.its.job; alone = same ∙ w.its.alone; past = w.its.past }; period = w.period; late_enough = w.late_enough };
      start = refl;
      definition = refl;
    },
  )

  apart : (s : State) (e : Event) → IsGood s → (t : History) → Waits s label t at → concerns label e ≡ false → IsStartedOr label t (outcome s e).orders (WaitsOn (step s e) label t at)
  apart s e good t w other = stays-same s e t w (orders-other label s e good other) (ap (λ (o : State). o.jobs) (step-other label s e good other))

  reading : (s : State) (mid : Reading) (t : History) → Waits s label t at → IsStartedOr label t (outcome s (Tick mid)).orders (WaitsOn (step s (Tick mid)) label t at)
  reading s mid t w = whether (refusal_in s (Tick mid)) refl where
    item : Job → Option Item
    item job = Some (Read mid (calendar_fires s.zone (definition_of job.past).calendar s.reading.wall mid.wall))

    job : Job
    job = w.its.job

    fires : Bool
    fires = calendar_fires s.zone (definition_of job.past).calendar s.reading.wall mid.wall

    own : is_of label job ≡ true
    own = (subst (λ (js : List Job). AllByRecursion (λ (job : Job). is_of label job ≡ true) js) w.its.alone (own-filter label s.jobs)).0

    named : job.label ≡ label
    named = sym (same_text label job.label (sym own))

    period : HasPeriod job.past
    period = subst HasPeriod (sym w.its.past) w.period

    come : has_come (spawns_from job.past) at.up ≡ true
    come = ap (λ (p : History). has_come (spawns_from p) at.up) w.its.past ∙ w.late_enough

    needs : needs_event (reasons_of job.past) ≡ false
    needs = (late-parts (needs_event (reasons_of job.past)) (interval_fires job.past at) (is_wanted job.past) (nat_le (free_from job.past) at.up) (sym (reading-due job.past at false) ∙ moment-due job.past at period ∙ come)).free_of_events

    starts : refusal_in s (Tick mid) ≡ None → is_some_spawn (due (Read mid fires ∷ job.past)) ≡ true → first (filter (is_for label) (outcome s (Tick mid)).orders) ≡ Some (start_of label t)
    starts accepted is =
        ap first (orders-alone s (Tick mid) item job accepted refl w.its.alone)
        ∙ ap (λ (acts : List Act). first (map (λ act. (job.label, act)) acts ++ [])) (acts-due job.past mid fires is)
        ∙ (λ i. Some (named i, Spawn (runs (w.its.past i) + 1) (first (waiting (w.its.past i)))))

    goes_on : refusal_in s (Tick mid) ≡ None → is_some_spawn (due (Read mid fires ∷ job.past)) ≡ false → (filter (is_for label) (outcome s (Tick mid)).orders ≡ []) × WaitsOn (step s (Tick mid)) label t at
    goes_on accepted none =
        let i = idle-at job.past mid fires needs none in (
          orders-alone s (Tick mid) item job accepted refl w.its.alone ∙ idle-orders (with_item job (item job)) i.staying i.idle,
          record {
            later = Read mid fires ∷ job.past;
            waits = record {
              its = record { job = with_item job (item job); alone = jobs-alone s (Tick mid) item job accepted refl w.its.alone i.staying i.idle; past = refl };
              period = period;
              late_enough = late-on job.past at mid fires period come;
            };
            start = ap (start_of label) w.its.past;
            definition = ap definition_of w.its.past;
          },
        )

    by : refusal_in s (Tick mid) ≡ None → (b : Bool) → is_some_spawn (due (Read mid fires ∷ job.past)) ≡ b → IsStartedOr label t (outcome s (Tick mid)).orders (WaitsOn (step s (Tick mid)) label t at)
    by accepted true is = inl (starts accepted is)
    by accepted false is = inr (goes_on accepted is)

    whether : (o : Option Refusal) → refusal_in s (Tick mid) ≡ o → IsStartedOr label t (outcome s (Tick mid)).orders (WaitsOn (step s (Tick mid)) label t at)
    whether None is = by is (is_some_spawn (due (Read mid fires ∷ job.past))) refl
    whether (Some refusal) is = stays-same s (Tick mid) t w
        (ap (λ o. filter (is_for label) (outcome_by o s (Tick mid)).orders) is) (ap (λ o. filter (is_of label) (step_by o s (Tick mid)).jobs) is)

  observation : (s : State) → IsGood s → (path : List ℕ) (obs : Obs) (t : History) → Waits s label t at → lists (definition_of t) path ≡ false →
      IsStartedOr label t (outcome s (Observation path obs)).orders (WaitsOn (step s (Observation path obs)) label t at)
  observation s good path obs t w unlisted =
      let e = Observation path obs in
      let item = observation_of path (Saw path obs) in
      let job = w.its.job in
      let rests : Rests s.reading job = (subst (λ (js : List Job). AllByRecursion (Rests s.reading) js) w.its.alone (resting-only label s good)).0 in
      let none : item job ≡ None = ap (λ (b : Bool). cond b (Some (Saw path obs)) None) (ap (λ (p : History). lists (definition_of p) path) w.its.past ∙ unlisted) in
      let same : with_item job (item job) ≡ job = ap (with_item job) none in
      let staying : is_gone (with_item job (item job)).past ≡ false = ap (λ (j : Job). is_gone j.past) same ∙ rests.staying in
      let idle : due (with_item job (item job)).past ≡ None = ap (λ (j : Job). due j.past) same ∙ rests.idle in
      stays-same s e t w (orders-alone s e item job refl refl w.its.alone ∙ idle-orders (with_item job (item job)) staying idle)
      (jobs-alone s e item job refl refl w.its.alone staying idle ∙ ap (λ (j : Job). j ∷ []) same ∙ sym w.its.alone)

  one : (s : State) → IsGood s → (e : Event) (t : History) → Waits s label t at → LeavesAlone label (definition_of t) e → IsStartedOr label t (outcome s e).orders (WaitsOn (step s e) label t at)
  one s good (Tick mid) t w leaves = reading s mid t w
  one s good (Observation path obs) t w leaves = observation s good path obs t w leaves
  one s good Unreadable t w leaves = apart s Unreadable good t w leaves
  one s good (Load given writes force bind store) t w leaves = apart s (Load given writes force bind store) good t w leaves
  one s good (UnloadJob other writes store) t w leaves = apart s (UnloadJob other writes store) good t w leaves
  one s good (Set other disabled store) t w leaves = apart s (Set other disabled store) good t w leaves
  one s good ListJobs t w leaves = apart s ListJobs good t w leaves
  one s good (PrintJob other) t w leaves = apart s (PrintJob other) good t w leaves
  one s good ShutDown t w leaves = apart s ShutDown good t w leaves
  one s good (OfJob other x) t w leaves = apart s (OfJob other x) good t w leaves

  all-leave : (d d' : Definition) → d' ≡ d → (es : List Event) → AllByRecursion (LeavesAlone label d) es → AllByRecursion (LeavesAlone label d') es
  all-leave d d' same es leave = subst (λ (x : Definition). AllByRecursion (LeavesAlone label x) es) (sym same) leave

  first-before : (xs ys : List (Label × Act)) (order : Label × Act) → first xs ≡ Some order → first (xs ++ ys) ≡ Some order
  first-before [] ys order is = cc
  first-before (x ∷ xs) ys order is = is

  -- any events that do nothing to the job
  events : (es : List Event) (s : State) → IsGood s → (t : History) → Waits s label t at → AllByRecursion (LeavesAlone label (definition_of t)) es →
      IsStartedOr label t (orders_in es s) (WaitsOn (run es s) label t at)
  events [] s good t w leave = inr (refl, record { later = t; waits = w; start = refl; definition = refl })
  events (e ∷ es) s good t w leave = elim (one s good e t w leave.0) [
    | inl started ↦ inl (ap first (filter-both (is_for label) (outcome s e).orders (orders_in es (step s e)))
        ∙ first-before (filter (is_for label) (outcome s e).orders) (filter (is_for label) (orders_in es (step s e))) (start_of label t) started)
    | inr on ↦
        let joined : filter (is_for label) (orders_in (e ∷ es) s) ≡ filter (is_for label) (orders_in es (step s e)) =
        filter-both (is_for label) (outcome s e).orders (orders_in es (step s e)) ∙ ap (λ (l : List (Label × Act)). l ++ filter (is_for label) (orders_in es (step s e))) on.0 in
        elim (events es (step s e) (good-step s e good) on.1.later on.1.waits (all-leave (definition_of t) (definition_of on.1.later) on.1.definition es leave.1)) [
          | inl started ↦ inl (ap first joined ∙ started ∙ ap Some on.1.start)
          | inr more ↦ inr (
            joined ∙ more.0,
            record {
              later = more.1.later;
              waits = more.1.waits;
              start = more.1.start ∙ on.1.start;
              definition = more.1.definition ∙ on.1.definition;
            },
          )
        ]
  ]

  -- after them the start of the job is due, unless it was ordered before
  pub not-put-off : (es : List Event) (s : State) → IsGood s → AreInOrder (labels_of s.jobs) → (t : History) → IsDueAt s label t at → AllByRecursion (LeavesAlone label (definition_of t)) es →
      IsStartedOr label t (orders_in es s) ((later : History) × IsDueAt (run es s) label later at × (start_of label later ≡ start_of label t))
  not-put-off es s good order t is_due leave = elim (events es s good t (record { its = alone-of label s.jobs order t is_due.loaded; period = is_due.period; late_enough = is_due.late_enough }) leave) [
    | inl started ↦ inl started
    | inr on ↦ inr (
      on.0,
      (
        on.1.later,
        record {
          loaded = ap (λ (js : List Job). past_in (first js)) on.1.waits.its.alone ∙ ap Some on.1.waits.its.past;
          period = on.1.waits.period;
          late_enough = on.1.waits.late_enough;
        },
        on.1.start,
      ),
    )
  ]
