-- A launcher that does not receive quiet clock readings and observations answers what it receives as one that receives all.
use Rattle.std.proofs.Common.{◌≡◌, inl, inr, ℕ, ◌≤◌, Bool, true, false, not, ◌||◌, ◌&&◌, cond, Option, Some, None, List, [], ◌∷◌, ◌++◌, refl, sym, ap, subst, ◌∙◌, nat_lt, codes, arith}
use Rattle.std.specs.Prelude.{Ok, Err}
use Rattle.std.specs.List.{filter, filter_map, flat_map, AllByRecursion}
use Rattle.std.proofs.lemmas.Bool.Decides.{nat_tests}
use Rattle.history_model.specs.declared.Reading.{Reading}
use Rattle.history_model.specs.declared.Obs.{Obs}
use Rattle.history_model.specs.declared.Act.{Act}
use Rattle.history_model.specs.declared.Ask.TheVariants.{Unload, Shutdown}
use Rattle.history_model.specs.declared.Refusal.{Refusal}
use Rattle.history_model.specs.declared.Refusal.TheVariants.{BadRequest, AlreadyLoaded, Removing, TooManyJobs, Disabled, SocketRefused, ClockRefused, ShuttingDown}
use Rattle.history_model.specs.declared.TheConstants.{MAX_JOBS, MAX_UP, MAX_WALL}
use Rattle.history_model.specs.Items.{Item, Loaded, Saw, Asked}
use Rattle.history_model.specs.Search.{or_else, first}
use Rattle.history_model.specs.Refusals.{is_clock_refused}
use Rattle.history_model.specs.Labels.{Label, is_label}
use Rattle.history_model.specs.Machine.{State, Job, Event, Unreadable, Load, UnloadJob, Set, ListJobs, PrintJob, ShutDown, Tick, Observation, OfJob, past_in, is_disabled, is_of}
use Rattle.history_model.specs.Acceptance.{refused_if, is_received, refusal_at, refusal_there, refusal_absent, refusal_in, refusal_stored}
use Rattle.history_model.specs.Texts.{text_after, print_text, printed}
use Rattle.history_model.specs.Step.{Outcome, received, lists, observation_of, taken, stays, orders_of, with_orders, step_by, step, outcome_by, outcome, run, outcomes, orders_in}
use Rattle.history_model.specs.LeftOut.{Line, Delivered, LeftOut, all_of, delivered, IsQuiet, last_read, last_read_in, IsInTime, MayBeLeftOut, outcomes_handed, outcomes_left}
use Rattle.history_model.proofs.ClockLemmas.{Read-later}
use Rattle.history_model.proofs.StepLemmas.{Stands, Rests, IsGood, IsStanding, standing, stands-taken, rests-with_orders, good-step, all-implied}
use Rattle.history_model.proofs.OneLabelLemmas.{rest-stays, rest-orders}
use Rattle.history_model.proofs.TwinLemmas.{AreTwins, definition-twin, removed-twin, shown-twin, refusal-twin, twins-orders, twins-stay, twins-received, twins-received_one, twins-past, twins-with_job, twins-length, twins-lines, twins-self}
use Rattle.history_model.proofs.NewsLemmas.{IsQuietFor, IsNear, quiet-jobs, near-same, near-quiet}
use Rattle.history_model.proofs.QuietLemmas.{twins-seen, rests-seen, read_as, twins-left, rests-left, twins-read}

-- the launcher that hears all, beside the one that does not: another reading, and other pasts
abbrev pub all_received : Reading → List Job → State → State
all_received last xs s = record s { reading = last; jobs = xs }

good-taken : (s : State) (e : Event) → refusal_in s e ≡ None → IsGood s → IsGood (with_orders (taken s e))
good-taken s e accepted good =
    let after = stands-taken s e accepted (standing s good) in
    record { range = after.range; rests = rests-with_orders (taken s e).reading (taken s e).jobs after.stands }

-- ---- at one clock reading both do the same

-- what both answer, and where they are then
pub record IsHanded (given other : Outcome) (after next : State) (last : Reading) : Type 0 where
  pub same : given ≡ other
  pub shape : after ≡ all_received last after.jobs next
  pub twins : AreTwins after.jobs next.jobs

module _ (s : State) (xs : List Job) (twins : AreTwins xs s.jobs) (all_good : IsGood (all_received s.reading xs s)) (good : IsGood s) where
  standing_all : AllByRecursion (Stands s.reading) xs
  standing_all = (standing (all_received s.reading xs s) all_good).stands

  standing_one : AllByRecursion (Stands s.reading) s.jobs
  standing_one = (standing s good).stands

  refused-alike : (x : Item) (label : Label) → refusal_at (past_in (first (filter (is_of label) xs))) x ≡ refusal_at (past_in (first (filter (is_of label) s.jobs))) x
  refused-alike x label = twins-past s.reading (λ o. refusal_at o x) (λ a b twin sa sb. refusal-twin a b twin s.reading s.reading sa sb refl x) label xs s.jobs twins standing_all standing_one

  refusal-alike : (e : Event) → refusal_in (all_received s.reading xs s) e ≡ refusal_in s e
  refusal-alike Unreadable = refl
  refusal-alike (Load (Err fault) writes_setting force bind store) = refl
  refusal-alike (Load (Ok given) writes_setting force bind store) =
      λ i. refused_if s.is_shutting_down ShuttingDown
      (or_else (twins-past s.reading refusal_there (λ a b twin sa sb. ap (λ v. Some (cond v Removing AlreadyLoaded)) (removed-twin a b twin)) given.label xs s.jobs twins standing_all standing_one i)
      (refused_if (not (nat_lt (twins-length xs s.jobs twins i) MAX_JOBS)) TooManyJobs
      (refused_if (not writes_setting && not force && is_disabled s given.label given.definition.disabled) Disabled
      (refused_if (given.definition.has_sockets && not bind) SocketRefused
      (refusal_stored writes_setting store)))))
  refusal-alike (UnloadJob label writes_setting store) =
      λ i. refused_if (not (is_label label)) BadRequest (or_else (refused-alike (Asked Unload) label i) (refusal_stored writes_setting store))
  refusal-alike (Set label disabled store) = refl
  refusal-alike ListJobs = refl
  refusal-alike (PrintJob label) =
      λ i. refused_if (not (is_label label)) BadRequest (twins-past s.reading refusal_absent (λ a b twin sa sb. refl) label xs s.jobs twins standing_all standing_one i)
  refusal-alike ShutDown = refl
  refusal-alike (Tick at) = refl
  refusal-alike (Observation path obs) = refl
  refusal-alike (OfJob label item) =
      λ i. refused_if (not (is_label label && is_received item)) BadRequest (refused-alike item label i)

  module _ (e : Event) (all_accepted : refusal_in (all_received s.reading xs s) e ≡ None) (accepted : refusal_in s e ≡ None) where
    all_after : IsStanding (taken (all_received s.reading xs s) e)
    all_after = stands-taken (all_received s.reading xs s) e all_accepted (standing (all_received s.reading xs s) all_good)

    after : IsStanding (taken s e)
    after = stands-taken s e accepted (standing s good)

  twins-taken : (e : Event) → refusal_in (all_received s.reading xs s) e ≡ None → refusal_in s e ≡ None → AreTwins (taken (all_received s.reading xs s) e).jobs (taken s e).jobs
  twins-taken Unreadable ea eb = twins
  twins-taken (Load (Err fault) writes_setting force bind store) ea eb = twins
  twins-taken (Load (Ok given) writes_setting force bind store) ea eb =
      twins-with_job (record { label = given.label; past = Loaded given.definition s.reading ∷ [] }) xs s.jobs twins
  twins-taken (UnloadJob label writes_setting store) ea eb =
      twins-received_one s.reading label (Asked Unload) xs s.jobs twins standing_all standing_one (all_after (UnloadJob label writes_setting store) ea eb).stands (after (UnloadJob label writes_setting store) ea eb).stands
  twins-taken (Set label disabled store) ea eb = twins
  twins-taken ListJobs ea eb = twins
  twins-taken (PrintJob label) ea eb = twins
  twins-taken ShutDown ea eb =
      twins-received s.reading (λ job. Some (Asked Shutdown)) (λ job. Some (Asked Shutdown)) (λ a b twin. refl) xs s.jobs twins standing_all standing_one (all_after ShutDown ea eb).stands (after ShutDown ea eb).stands
  twins-taken (Tick at) ea eb =
      twins-read s.zone s.reading s.reading at xs s.jobs twins standing_all standing_one (near-same s.reading s.reading refl s.jobs) (all_after (Tick at) ea eb).stands (after (Tick at) ea eb).stands
  twins-taken (Observation path obs) ea eb =
      twins-received s.reading (observation_of path (Saw path obs)) (observation_of path (Saw path obs)) (λ a b twin. ap (λ d. cond (lists d path) (Some (Saw path obs)) None) (definition-twin a b twin)) xs s.jobs twins standing_all standing_one
      (all_after (Observation path obs) ea eb).stands (after (Observation path obs) ea eb).stands
  twins-taken (OfJob label item) ea eb =
      twins-received_one s.reading label item xs s.jobs twins standing_all standing_one (all_after (OfJob label item) ea eb).stands (after (OfJob label item) ea eb).stands

  shape-taken : (e : Event) → taken (all_received s.reading xs s) e ≡ all_received (taken s e).reading (taken (all_received s.reading xs s) e).jobs (taken s e)
  shape-taken Unreadable = refl
  shape-taken (Load (Err fault) writes_setting force bind store) = refl
  shape-taken (Load (Ok given) writes_setting force bind store) = refl
  shape-taken (UnloadJob label writes_setting store) = refl
  shape-taken (Set label disabled store) = refl
  shape-taken ListJobs = refl
  shape-taken (PrintJob label) = refl
  shape-taken ShutDown = refl
  shape-taken (Tick at) = refl
  shape-taken (Observation path obs) = refl
  shape-taken (OfJob label item) = refl

-- the texts of two states of one clock reading whose jobs are twins
text-alike : (s : State) (xs : List Job) → AreTwins xs s.jobs → AllByRecursion (Stands s.reading) xs → AllByRecursion (Stands s.reading) s.jobs → (e : Event) →
    text_after e (all_received s.reading xs s) ≡ text_after e s
text-alike s xs twins sx sy Unreadable = refl
text-alike s xs twins sx sy (Load (Err fault) writes_setting force bind store) = refl
text-alike s xs twins sx sy (Load (Ok given) writes_setting force bind store) = refl
text-alike s xs twins sx sy (UnloadJob label writes_setting store) = refl
text-alike s xs twins sx sy (Set label disabled store) = refl
text-alike s xs twins sx sy ListJobs = ap (λ (lines : List ℕ). codes "PID\tStatus\tLabel\n" ++ lines) (twins-lines xs s.jobs twins)
text-alike s xs twins sx sy (PrintJob label) =
    twins-past s.reading (printed s label)
    (λ a b twin sa sb. λ i. print_text label (shown-twin a b twin i) (is_disabled s label (definition-twin a b twin i).disabled)) label xs s.jobs twins sx sy
text-alike s xs twins sx sy ShutDown = refl
text-alike s xs twins sx sy (Tick at) = refl
text-alike s xs twins sx sy (Observation path obs) = refl
text-alike s xs twins sx sy (OfJob label item) = refl

module _ (s : State) (xs : List Job) (twins : AreTwins xs s.jobs) (all_good : IsGood (all_received s.reading xs s)) (good : IsGood s) (e : Event) where
  accepted-alike : refusal_in (all_received s.reading xs s) e ≡ None → refusal_in s e ≡ None →
      IsHanded (outcome_by None (all_received s.reading xs s) e) (outcome_by None s e) (step_by None (all_received s.reading xs s) e) (step_by None s e) (step_by None s e).reading
  accepted-alike ea eb = record {
    same = λ i. record { refusal = None; orders = orders i; text = (ap (text_after e) shape_after ∙ text-alike (with_orders (taken s e)) all_jobs twins_after ready_x ready_y e) i };
    shape = shape_after;
    twins = twins_after;
  } where
    shape : taken (all_received s.reading xs s) e ≡ all_received (taken s e).reading (taken (all_received s.reading xs s) e).jobs (taken s e)
    shape = shape-taken s xs twins all_good good e

    taken_x : AllByRecursion (Stands (taken s e).reading) (taken (all_received s.reading xs s) e).jobs
    taken_x = subst (λ (r : Reading). AllByRecursion (Stands r) (taken (all_received s.reading xs s) e).jobs) (ap (λ (t : State). t.reading) shape) (all_after s xs twins all_good good e ea eb).stands

    taken_y : AllByRecursion (Stands (taken s e).reading) (taken s e).jobs
    taken_y = (after s xs twins all_good good e ea eb).stands

    both : AreTwins (taken (all_received s.reading xs s) e).jobs (taken s e).jobs
    both = twins-taken s xs twins all_good good e ea eb

    orders : flat_map orders_of (taken (all_received s.reading xs s) e).jobs ≡ flat_map orders_of (taken s e).jobs
    orders = twins-orders (taken s e).reading (taken (all_received s.reading xs s) e).jobs (taken s e).jobs both taken_x taken_y

    all_jobs : List Job
    all_jobs = filter_map stays (taken (all_received s.reading xs s) e).jobs

    shape_after : with_orders (taken (all_received s.reading xs s) e) ≡ all_received (taken s e).reading (filter_map stays (taken (all_received s.reading xs s) e).jobs) (with_orders (taken s e))
    shape_after = ap with_orders shape

    twins_after : AreTwins (filter_map stays (taken (all_received s.reading xs s) e).jobs) (filter_map stays (taken s e).jobs)
    twins_after = twins-stay (taken s e).reading (taken (all_received s.reading xs s) e).jobs (taken s e).jobs both taken_x taken_y

    ready_x : AllByRecursion (Stands (taken s e).reading) (filter_map stays (taken (all_received s.reading xs s) e).jobs)
    ready_x = all-implied (Rests (taken s e).reading) (Stands (taken s e).reading) (λ job rests. rests.stands) _ (rests-with_orders (taken s e).reading (taken (all_received s.reading xs s) e).jobs taken_x)

    ready_y : AllByRecursion (Stands (taken s e).reading) (filter_map stays (taken s e).jobs)
    ready_y = all-implied (Rests (taken s e).reading) (Stands (taken s e).reading) (λ job rests. rests.stands) _ (rests-with_orders (taken s e).reading (taken s e).jobs taken_y)

  alike-by : (o : Option Refusal) → refusal_in (all_received s.reading xs s) e ≡ o → refusal_in s e ≡ o →
      IsHanded (outcome_by o (all_received s.reading xs s) e) (outcome_by o s e) (step_by o (all_received s.reading xs s) e) (step_by o s e) (step_by o s e).reading
  alike-by None ea eb = accepted-alike ea eb
  alike-by (Some refusal) ea eb = record { same = refl; shape = refl; twins = twins }

  alike : IsHanded (outcome (all_received s.reading xs s) e) (outcome s e) (step (all_received s.reading xs s) e) (step s e) (step s e).reading
  alike =
      subst (λ (o : Option Refusal). IsHanded (outcome_by o (all_received s.reading xs s) e) (outcome s e) (step_by o (all_received s.reading xs s) e) (step s e) (step s e).reading) (sym same)
      (alike-by (refusal_in s e) same refl) where
        same : refusal_in (all_received s.reading xs s) e ≡ refusal_in s e
        same = refusal-alike s xs twins all_good good e

-- ---- one is late

-- since `last` nothing changed but what the one does not hear
pub record IsBehind (last : Reading) (xs : List Job) (s : State) : Type 0 where
  pub twins : AreTwins xs s.jobs
  pub order : s.reading.up ≤ last.up
  pub near : AllByRecursion (IsNear s.reading last) s.jobs
  pub all_good : IsGood (all_received last xs s)
  pub good : IsGood s

-- both hear of an event
pub record Hands (last : Reading) (given other : Outcome) (before next : State) : Type 0 where
  pub same : given ≡ other
  pub shape : before ≡ all_received last before.jobs next
  pub behind : IsBehind last before.jobs next

-- only the one that hears all does
pub record Leaves (last : Reading) (given : Outcome) (after s : State) : Type 0 where
  pub silent : given.orders ≡ []
  pub shape : after ≡ all_received last after.jobs s
  pub behind : IsBehind last after.jobs s

caught-up : (last : Reading) (given other : Outcome) (after next : State) → next.reading ≡ last → IsHanded given other after next next.reading → IsGood after → IsGood next → Hands last given other after next
caught-up last given other after next same handed all_good good =
    subst (λ (r : Reading). Hands r given other after next) same (record {
      same = handed.same;
      shape = handed.shape;
      behind = record {
        twins = handed.twins;
        order = omega arith;
        near = near-same next.reading next.reading refl next.jobs;
        all_good = subst IsGood handed.shape all_good;
        good = good;
      };
    })

-- the clock reading stays, but at a clock reading
reading-kept : (s : State) (e : Event) → ((at : Reading) → e ≡ Tick at → ⊥) → (step s e).reading ≡ s.reading
reading-kept s e no_reading = go (refusal_in s e) where
  kept : (e : Event) → ((at : Reading) → e ≡ Tick at → ⊥) → (taken s e).reading ≡ s.reading
  kept (Load (Ok given) writes_setting force bind store) other = refl
  kept (Load (Err fault) writes_setting force bind store) other = refl
  kept (Tick at) other = absurd (other at refl)
  kept _ other = refl

  go : (o : Option Refusal) → (step_by o s e).reading ≡ s.reading
  go None = kept e no_reading
  go (Some refusal) = refl

module _ (last : Reading) (xs : List Job) (s : State) (behind : IsBehind last xs s) where
  -- an event at the last clock reading
  hands-event : (e : Event) → ((at : Reading) → e ≡ Tick at → ⊥) → s.reading ≡ last → Hands last (outcome (all_received last xs s) e) (outcome s e) (step (all_received last xs s) e) (step s e)
  hands-event e no_reading same =
      subst (λ (r : Reading). IsGood (all_received r xs s) → Hands r (outcome (all_received r xs s) e) (outcome s e) (step (all_received r xs s) e) (step s e)) same
      (λ all_good. caught-up s.reading _ _ _ _ (reading-kept s e no_reading) (alike s xs behind.twins all_good behind.good e) (good-step (all_received s.reading xs s) e all_good) (good-step s e behind.good))
      behind.all_good

  -- a clock reading that is not before the last
  clocks : (at : Reading) → IsInTime last s (Tick at) → is_clock_refused last at ≡ is_clock_refused s.reading at
  clocks at (inl same) = ap (λ (r : Reading). is_clock_refused r at) (sym same)
  clocks at (inr later) =
      let order = behind.order in
      let there : nat_lt at.up last.up ≡ false = grind (arith, nat_tests, later) in
      let here : nat_lt at.up s.reading.up ≡ false = grind (arith, nat_tests, later, order) in
      λ i. (there ∙ sym here) i || nat_lt MAX_UP at.up || nat_lt MAX_WALL at.wall

  hands-reading : (at : Reading) → IsInTime last s (Tick at) → Hands (last_read last (Tick at)) (outcome (all_received last xs s) (Tick at)) (outcome s (Tick at)) (step (all_received last xs s) (Tick at)) (step s (Tick at))
  hands-reading at in_time =
      subst (λ (c : Bool). Hands (cond c last at) (outcome_by (refused_if c ClockRefused None) (all_received last xs s) (Tick at)) (outcome s (Tick at)) (step_by (refused_if c ClockRefused None) (all_received last xs s) (Tick at)) (step s (Tick at)))
      (sym (clocks at in_time)) (go (is_clock_refused s.reading at) refl) where
        go : (b : Bool) → is_clock_refused s.reading at ≡ b →
            Hands (cond b last at) (outcome_by (refused_if b ClockRefused None) (all_received last xs s) (Tick at)) (outcome_by (refused_if b ClockRefused None) s (Tick at))
            (step_by (refused_if b ClockRefused None) (all_received last xs s) (Tick at)) (step_by (refused_if b ClockRefused None) s (Tick at))
        go true e = record { same = refl; shape = refl; behind = behind }
        go false e = record {
          same = λ i. record { refusal = None; orders = twins-orders at (received (read_as s.zone last at) xs) (received (read_as s.zone s.reading at) s.jobs) both taken_x.stands taken_y.stands i; text = [] };
          shape = refl;
          behind = record {
            twins = twins-stay at (received (read_as s.zone last at) xs) (received (read_as s.zone s.reading at) s.jobs) both taken_x.stands taken_y.stands;
            order = omega arith;
            near = near-same at at refl _;
            all_good = good-taken (all_received last xs s) (Tick at) accepted_x behind.all_good;
            good = good-taken s (Tick at) accepted_y behind.good;
          };
        } where
          accepted_x : refusal_in (all_received last xs s) (Tick at) ≡ None
          accepted_x = ap (λ c. refused_if c ClockRefused None) (clocks at in_time ∙ e)

          accepted_y : refusal_in s (Tick at) ≡ None
          accepted_y = ap (λ c. refused_if c ClockRefused None) e

          taken_x : IsStanding (taken (all_received last xs s) (Tick at))
          taken_x = stands-taken (all_received last xs s) (Tick at) accepted_x (standing (all_received last xs s) behind.all_good)

          taken_y : IsStanding (taken s (Tick at))
          taken_y = stands-taken s (Tick at) accepted_y (standing s behind.good)

          both : AreTwins (received (read_as s.zone last at) xs) (received (read_as s.zone s.reading at) s.jobs)
          both = twins-read s.zone s.reading last at xs s.jobs behind.twins (standing (all_received last xs s) behind.all_good).stands (standing s behind.good).stands behind.near taken_x.stands taken_y.stands

  -- a clock reading that changes nothing
  leaves-reading : (at : Reading) → IsQuiet s (Tick at) → Leaves (last_read last (Tick at)) (outcome (all_received last xs s) (Tick at)) (step (all_received last xs s) (Tick at)) s
  leaves-reading at quiet = go (is_clock_refused last at) refl where
    quiets : AllByRecursion (IsQuietFor s.reading at) s.jobs
    quiets = quiet-jobs s.reading at s.jobs (standing s behind.good).stands quiet

    go : (b : Bool) → is_clock_refused last at ≡ b →
        Leaves (cond b last at) (outcome_by (refused_if b ClockRefused None) (all_received last xs s) (Tick at)) (step_by (refused_if b ClockRefused None) (all_received last xs s) (Tick at)) s
    go true e = record { silent = refl; shape = refl; behind = behind }
    go false e = record {
      silent = rest-orders at (received (read_as s.zone last at) xs) rests;
      shape = refl;
      behind = record {
        twins = subst (λ (jobs : List Job). AreTwins jobs s.jobs) (sym same) both;
        order = order;
        near = near-quiet s.reading at order s.jobs quiets;
        all_good = good-taken (all_received last xs s) (Tick at) accepted behind.all_good;
        good = behind.good;
      };
    } where
      accepted : refusal_in (all_received last xs s) (Tick at) ≡ None
      accepted = ap (λ c. refused_if c ClockRefused None) e

      taken_x : IsStanding (taken (all_received last xs s) (Tick at))
      taken_x = stands-taken (all_received last xs s) (Tick at) accepted (standing (all_received last xs s) behind.all_good)

      order : s.reading.up ≤ at.up
      order =
          let before = behind.order in
          let on = (Read-later last at e).0 in
          omega (arith, before, on)

      both : AreTwins (received (read_as s.zone last at) xs) s.jobs
      both = twins-left s.zone s.reading last at xs s.jobs behind.twins (standing (all_received last xs s) behind.all_good).stands (standing s behind.good).stands order behind.near quiets taken_x.stands

      rests : AllByRecursion (Rests at) (received (read_as s.zone last at) xs)
      rests = rests-left s.zone s.reading last at xs s.jobs both behind.all_good.rests behind.good.rests order quiets taken_x.stands

      same : filter_map stays (received (read_as s.zone last at) xs) ≡ received (read_as s.zone last at) xs
      same = rest-stays at (received (read_as s.zone last at) xs) rests

  -- an observation that changes nothing
  leaves-observation : (path : List ℕ) (obs : Obs) → IsQuiet s (Observation path obs) → Leaves last (outcome (all_received last xs s) (Observation path obs)) (step (all_received last xs s) (Observation path obs)) s
  leaves-observation path obs quiet = record {
    silent = rest-orders last (received (observation_of path (Saw path obs)) xs) rests;
    shape = refl;
    behind = record {
      twins = subst (λ (jobs : List Job). AreTwins jobs s.jobs) (sym same) both;
      order = behind.order;
      near = behind.near;
      all_good = good-taken (all_received last xs s) (Observation path obs) refl behind.all_good;
      good = behind.good;
    };
  } where
    taken_x : IsStanding (taken (all_received last xs s) (Observation path obs))
    taken_x = stands-taken (all_received last xs s) (Observation path obs) refl (standing (all_received last xs s) behind.all_good)

    both : AreTwins (received (observation_of path (Saw path obs)) xs) s.jobs
    both = twins-seen last path obs xs s.jobs behind.twins quiet

    rests : AllByRecursion (Rests last) (received (observation_of path (Saw path obs)) xs)
    rests = rests-seen last path obs xs s.jobs behind.twins both behind.all_good.rests taken_x.stands

    same : filter_map stays (received (observation_of path (Saw path obs)) xs) ≡ received (observation_of path (Saw path obs)) xs
    same = rest-stays last (received (observation_of path (Saw path obs)) xs) rests

  handed : (e : Event) → IsInTime last s e → Hands (last_read last e) (outcome (all_received last xs s) e) (outcome s e) (step (all_received last xs s) e) (step s e)
  handed (Tick at) in_time = hands-reading at in_time
  handed Unreadable same = hands-event Unreadable (λ at e. cc) same
  handed (Load given writes_setting force bind store) same = hands-event (Load given writes_setting force bind store) (λ at e. cc) same
  handed (UnloadJob label writes_setting store) same = hands-event (UnloadJob label writes_setting store) (λ at e. cc) same
  handed (Set label disabled store) same = hands-event (Set label disabled store) (λ at e. cc) same
  handed ListJobs same = hands-event ListJobs (λ at e. cc) same
  handed (PrintJob label) same = hands-event (PrintJob label) (λ at e. cc) same
  handed ShutDown same = hands-event ShutDown (λ at e. cc) same
  handed (Observation path obs) same = hands-event (Observation path obs) (λ at e. cc) same
  handed (OfJob label item) same = hands-event (OfJob label item) (λ at e. cc) same

  left : (e : Event) → IsQuiet s e → Leaves (last_read last e) (outcome (all_received last xs s) e) (step (all_received last xs s) e) s
  left (Tick at) quiet = leaves-reading at quiet
  left (Observation path obs) quiet = leaves-observation path obs quiet
  left _ quiet = absurd quiet

-- ---- whole lists

pub received-same : (lines : List Line) (last : Reading) (xs : List Job) (s : State) → IsBehind last xs s → MayBeLeftOut last s lines → outcomes (delivered lines) s ≡ outcomes_handed lines (all_received last xs s)
received-same [] last xs s behind may = refl
received-same (Delivered e ∷ lines) last xs s behind may =
    let hands = handed last xs s behind e may.0 in
    let rest = received-same lines (last_read last e) (step (all_received last xs s) e).jobs (step s e) hands.behind may.1 in
    λ i. sym hands.same i ∷ (rest ∙ ap (outcomes_handed lines) (sym hands.shape)) i
received-same (LeftOut e ∷ lines) last xs s behind may =
    let leaves = left last xs s behind e may.0 in
    received-same lines (last_read last e) (step (all_received last xs s) e).jobs s leaves.behind may.1 ∙ ap (outcomes_handed lines) (sym leaves.shape)

pub left-silent : (lines : List Line) (last : Reading) (xs : List Job) (s : State) → IsBehind last xs s → MayBeLeftOut last s lines →
    AllByRecursion (λ (given : Outcome). given.orders ≡ []) (outcomes_left lines (all_received last xs s))
left-silent [] last xs s behind may = tt
left-silent (Delivered e ∷ lines) last xs s behind may =
    let hands = handed last xs s behind e may.0 in
    subst (λ (next : State). AllByRecursion (λ (given : Outcome). given.orders ≡ []) (outcomes_left lines next)) (sym hands.shape)
    (left-silent lines (last_read last e) (step (all_received last xs s) e).jobs (step s e) hands.behind may.1)
left-silent (LeftOut e ∷ lines) last xs s behind may =
    let leaves = left last xs s behind e may.0 in (
      leaves.silent,
      subst (λ (next : State). AllByRecursion (λ (given : Outcome). given.orders ≡ []) (outcomes_left lines next)) (sym leaves.shape)
          (left-silent lines (last_read last e) (step (all_received last xs s) e).jobs s leaves.behind may.1),
    )

-- at first both are at one place
pub at-one : (s : State) → IsGood s → IsBehind s.reading s.jobs s
at-one s good = record {
  twins = twins-self s.jobs;
  order = omega arith;
  near = near-same s.reading s.reading refl s.jobs;
  all_good = good;
  good = good;
}

-- ---- all orders of both

-- the orders of all lines are those of the lines that are handed in, if the others give none
orders-handed : (lines : List Line) (s : State) → AllByRecursion (λ (given : Outcome). given.orders ≡ []) (outcomes_left lines s) →
    orders_in (all_of lines) s ≡ flat_map (λ (given : Outcome). given.orders) (outcomes_handed lines s)
orders-handed [] s silent = refl
orders-handed (Delivered e ∷ lines) s silent = ap (λ (more : List (Label × Act)). (outcome s e).orders ++ more) (orders-handed lines (step s e) silent)
orders-handed (LeftOut e ∷ lines) s silent = (λ i. silent.0 i ++ orders_in (all_of lines) (step s e)) ∙ orders-handed lines (step s e) silent.1

pub orders-same : (lines : List Line) (s : State) → IsGood s → MayBeLeftOut s.reading s lines → orders_in (delivered lines) s ≡ orders_in (all_of lines) s
orders-same lines s good may =
    ap (flat_map (λ (given : Outcome). given.orders)) (received-same lines s.reading s.jobs s (at-one s good) may)
    ∙ sym (orders-handed lines s (left-silent lines s.reading s.jobs s (at-one s good) may))

-- ---- one line more

pub hands-more : (lines : List Line) (last : Reading) (s : State) (e : Event) → MayBeLeftOut last s lines → IsInTime (last_read_in last (all_of lines)) (run (delivered lines) s) e → MayBeLeftOut last s (lines ++ Delivered e ∷ [])
hands-more [] last s e may in_time = (in_time, tt)
hands-more (Delivered x ∷ lines) last s e may in_time = (may.0, hands-more lines (last_read last x) (step s x) e may.1 in_time)
hands-more (LeftOut x ∷ lines) last s e may in_time = (may.0, hands-more lines (last_read last x) s e may.1 in_time)

pub leaves-more : (lines : List Line) (last : Reading) (s : State) (e : Event) → MayBeLeftOut last s lines → IsQuiet (run (delivered lines) s) e → MayBeLeftOut last s (lines ++ LeftOut e ∷ [])
leaves-more [] last s e may quiet = (quiet, tt)
leaves-more (Delivered x ∷ lines) last s e may quiet = (may.0, leaves-more lines (last_read last x) (step s x) e may.1 quiet)
leaves-more (LeftOut x ∷ lines) last s e may quiet = (may.0, leaves-more lines (last_read last x) s e may.1 quiet)
