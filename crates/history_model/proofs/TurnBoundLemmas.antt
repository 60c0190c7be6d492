-- The first event of a turn, and the bound of the whole.
use Rattle.std.proofs.Common.{◌≡◌, suc, ◌+◌, ◌*◌, ◌<◌, ◌≤◌, nat_lt, Bool, true, false, not, cond, Option, Some, None, List, [], ◌∷◌, ◌++◌, length, refl, ap, subst, arith}
use Rattle.std.proofs.lemmas.Bool.Decides.{nat_tests}
use Rattle.std.specs.Prelude.{Ok, Err}
use Rattle.std.specs.List.{flat_map, AllByRecursion}
use Rattle.history_model.specs.declared.Act.{Act}
use Rattle.history_model.specs.declared.Act.TheVariants.{Spawn, Term, Kill, Close, Gone}
use Rattle.history_model.specs.declared.Ask.TheVariants.{Unload, Shutdown}
use Rattle.history_model.specs.declared.Refusal.{Refusal}
use Rattle.history_model.specs.declared.Refusal.TheVariants.{ShuttingDown, TooManyJobs}
use Rattle.history_model.specs.declared.TheConstants.{MAX_JOBS, MAX_UP}
use Rattle.history_model.specs.Items.{Loaded, Read, Saw, Asked, Definition, History}
use Rattle.history_model.specs.Due.{due}
use Rattle.history_model.specs.Clock.{definition_of}
use Rattle.history_model.specs.Calendar.{calendar_fires}
use Rattle.history_model.specs.Labels.{Label, is_before}
use Rattle.history_model.specs.Machine.{State, Job, Header, Event, Unreadable, Load, UnloadJob, Set, ListJobs, PrintJob, ShutDown, Tick, Observation, OfJob, past_of, opened}
use Rattle.history_model.specs.Acceptance.{refusal_in, refusal_there, refusal_of_load}
use Rattle.history_model.specs.Step.{with_job, observation_of, acts_of, orders_of, taken, step, step_by, outcome, outcome_by, run}
use Rattle.history_model.specs.MachineLaws.{AreInOrder, labels_of}
use Rattle.history_model.proofs.StepLemmas.{IsGood, good-step, good-run, good-opened, refused-None, or_else-None}
use Rattle.history_model.proofs.LabelOrderLemmas.{order-run, order-taken}
use Rattle.history_model.specs.Turns.{JobOrder, wanting, AreAnswers, still_waiting}
use Rattle.history_model.specs.AwaitedOrders.{weight, weigh_orders}
use Rattle.history_model.proofs.BooleanLemmas.{not-false}
use Rattle.history_model.proofs.FewLoadsLemmas.{length-received, length-received_one, length-stays}
use Rattle.history_model.proofs.WaitsLemmas.{weigh, weigh_one, weigh-acts}
use Rattle.history_model.proofs.FreshOrdersLemmas.{fresh-with_orders}
use Rattle.history_model.proofs.TurnsLemmas.{weigh-append, weigh-wanting, weigh-labelled, IsTurning, turning-step, wanting-heavy}

-- ---- how many jobs there are

length-with_job : (new : Job) (jobs : List Job) → length (with_job new jobs) ≡ suc (length jobs)
length-with_job new [] = refl
length-with_job new (job ∷ jobs) = go (is_before new.label job.label) (length-with_job new jobs) where
  go : (b : Bool) → length (with_job new jobs) ≡ suc (length jobs) → length (cond b (new ∷ job ∷ jobs) (job ∷ with_job new jobs)) ≡ suc (suc (length jobs))
  go true rest = refl
  go false rest = ap (λ n. suc n) rest

has-room : (s : State) (label : Label) (d : Definition) (writes_setting force bind store : Bool) → refusal_of_load s label d writes_setting force bind store ≡ None → length s.jobs < MAX_JOBS
has-room s label d writes_setting force bind store accepted =
    let open_still = refused-None s.is_shutting_down ShuttingDown _ accepted in
    let absent = or_else-None (refusal_there (past_of s label)) _ open_still.1 in
    let few = refused-None (not (nat_lt (length s.jobs) MAX_JOBS)) TooManyJobs _ absent.1 in
    let below : nat_lt (length s.jobs) MAX_JOBS ≡ true = not-false (nat_lt (length s.jobs) MAX_JOBS) few.0 in
    grind (arith, nat_tests, below)

within-taken : (s : State) (e : Event) → refusal_in s e ≡ None → length s.jobs ≤ MAX_JOBS → length (taken s e).jobs ≤ MAX_JOBS
within-taken s Unreadable accepted few = few
within-taken s (Load (Err fault) writes_setting force bind store) accepted few = few
within-taken s (Load (Ok given) writes_setting force bind store) accepted few =
    let room = has-room s given.label given.definition writes_setting force bind store accepted in
    omega (arith, length-with_job (record { label = given.label; past = Loaded given.definition s.reading ∷ [] }) s.jobs, room)
within-taken s (UnloadJob label writes_setting store) accepted few = omega (arith, length-received_one label (Asked Unload) s.jobs)
within-taken s (Set label disabled store) accepted few = few
within-taken s ListJobs accepted few = few
within-taken s (PrintJob label) accepted few = few
within-taken s ShutDown accepted few = omega (arith, length-received (λ job. Some (Asked Shutdown)) s.jobs)
within-taken s (Tick at) accepted few =
    omega (arith, length-received (λ job. Some (Read at (calendar_fires s.zone (definition_of job.past).calendar s.reading.wall at.wall))) s.jobs)
within-taken s (Observation path obs) accepted few = omega (arith, length-received (observation_of path (Saw path obs)) s.jobs)
within-taken s (OfJob label item) accepted few = omega (arith, length-received_one label item s.jobs)

pub within-step : (s : State) (e : Event) → length s.jobs ≤ MAX_JOBS → length (step s e).jobs ≤ MAX_JOBS
within-step s e few = go (refusal_in s e) refl where
  go : (o : Option Refusal) → refusal_in s e ≡ o → length (step_by o s e).jobs ≤ MAX_JOBS
  go (Some refusal) is = few
  go None is = omega (arith, within-taken s e is few, length-stays (taken s e).jobs)

pub within-run : (es : List Event) (s : State) → length s.jobs ≤ MAX_JOBS → length (run es s).jobs ≤ MAX_JOBS
within-run [] s few = few
within-run (e ∷ es) s few = within-run es (step s e) (within-step s e few)

-- ---- the first event

one-order : (t : History) → weigh (acts_of t) ≤ 3
one-order t = go (due t) refl where
  go : (o : Option Act) → due t ≡ o → weigh (acts_of t) ≤ 3
  go None e = omega (arith, weigh-acts t, ap weigh_one e)
  go (Some (Spawn run conn)) e = omega (arith, weigh-acts t, ap weigh_one e)
  go (Some (Term run)) e = omega (arith, weigh-acts t, ap weigh_one e)
  go (Some (Kill run)) e = omega (arith, weigh-acts t, ap weigh_one e)
  go (Some (Close conn)) e = omega (arith, weigh-acts t, ap weigh_one e)
  go (Some Gone) e = omega (arith, weigh-acts t, ap weigh_one e)

weigh-all : (jobs : List Job) → weigh_orders (flat_map orders_of jobs) ≤ 3 * length jobs
weigh-all [] = omega arith
weigh-all (job ∷ jobs) =
    omega (arith, weigh-append (orders_of job) (flat_map orders_of jobs), weigh-labelled job.label (acts_of job.past), one-order job.past, weigh-all jobs)

pub turning-start : (s : State) (e : Event) → IsGood s → AreInOrder (labels_of s.jobs) → length s.jobs ≤ MAX_JOBS →
    IsTurning (step s e) (wanting (outcome s e).orders) × (weigh_orders (wanting (outcome s e).orders) ≤ 3 * MAX_JOBS)
turning-start s e good order few = go (refusal_in s e) refl where
  go : (o : Option Refusal) → refusal_in s e ≡ o → IsTurning (step_by o s e) (wanting (outcome_by o s e).orders) × (weigh_orders (wanting (outcome_by o s e).orders) ≤ 3 * MAX_JOBS)
  go (Some refusal) is = (record { good = good; order = order; fresh = tt; heavy = tt }, omega arith)
  go None is =
      let jobs : List Job = (taken s e).jobs in (
        record {
          good = subst (λ (o : Option Refusal). IsGood (step_by o s e)) is (good-step s e good);
          order = subst (λ (o : Option Refusal). AreInOrder (labels_of (step_by o s e).jobs)) is (order-run (e ∷ []) s order);
          fresh = fresh-with_orders jobs (order-taken s e is order);
          heavy = wanting-heavy (flat_map orders_of jobs);
        },
        omega (arith, weigh-wanting (flat_map orders_of jobs), weigh-all jobs, within-taken s e is few),
      )

-- ---- the whole

pub length-heavy : (waits : List JobOrder) → AllByRecursion (λ (job_order : JobOrder). 0 < weight job_order.1) waits → length waits ≤ weigh_orders waits
length-heavy [] heavy = omega arith
length-heavy (job_order ∷ waits) heavy = omega (arith, heavy.0, length-heavy waits heavy.1)

bounded : (answers : List Event) (s : State) (waits : List JobOrder) → IsTurning s waits → AreAnswers s waits answers →
    length answers + length (still_waiting s waits answers) ≤ weigh_orders waits
bounded [] s waits turning answer = omega (arith, length-heavy waits turning.heavy)
bounded (e ∷ es) s [] turning answer = absurd answer
bounded (e ∷ es) s (job_order ∷ waits) turning answer =
    let next = turning-step s job_order waits e turning answer.0 in
    let rest = bounded es (step s e) (waits ++ wanting (outcome s e).orders) next.0 answer.1 in
    omega (arith, rest, next.1, weigh-append waits (wanting (outcome s e).orders))

pub short : (h : Header) (es : List Event) (e : Event) (answers : List Event) → h.reading.up ≤ MAX_UP →
    AreAnswers (step (run es (opened h)) e) (wanting (outcome (run es (opened h)) e).orders) answers →
    length answers + length (still_waiting (step (run es (opened h)) e) (wanting (outcome (run es (opened h)) e).orders) answers) ≤ 3 * MAX_JOBS
short h es e answers range answer =
    let s : State = run es (opened h) in
    let start = turning-start s e (good-run es (opened h) (good-opened h range)) (order-run es (opened h) tt) (within-run es (opened h) (omega arith)) in
    omega (arith, start.1, bounded answers (step s e) (wanting (outcome s e).orders) start.0 answer)
