-- One more answer of a turn: the orders that wait stay fresh, and weigh less.
use Rattle.std.proofs.Common.{◌≡◌, ◌+◌, ◌<◌, ◌≤◌, Bool, true, false, not, ◌&&◌, cond, Option, Some, None, List, [], ◌∷◌, ◌++◌, map, refl, sym, ap, subst, ◌∙◌, arith}
use Rattle.std.specs.List.{filter, filter_map, flat_map, AllByRecursion}
use Rattle.std.specs.Cmp.Lexicographic.{same_text}
use Rattle.std.proofs.lemmas.List.{append-nil}
use Rattle.history_model.specs.declared.Act.{Act}
use Rattle.history_model.specs.declared.Act.TheVariants.{Spawn, Term, Kill, Close, Gone}
use Rattle.history_model.specs.declared.Answer.{Answer}
use Rattle.history_model.specs.declared.Answer.TheVariants.{Spawned, SpawnRefused, Termed, Killed}
use Rattle.history_model.specs.declared.Reading.{Reading}
use Rattle.history_model.specs.declared.Refusal.{Refusal}
use Rattle.history_model.specs.declared.Refusal.TheVariants.{BadRequest}
use Rattle.history_model.specs.Items.{History, Item, Ordered, Answered}
use Rattle.history_model.specs.Search.{first}
use Rattle.history_model.specs.Runs.{is_answer_to}
use Rattle.history_model.specs.Refusals.{refusal_of, IsLawful}
use Rattle.history_model.specs.Labels.{Label, is_same, is_label}
use Rattle.history_model.specs.Machine.{State, Job, Event, OfJob, is_of, past_in, past_of}
use Rattle.history_model.specs.Acceptance.{refusal_in, refusal_at, is_received}
use Rattle.history_model.specs.Step.{with_item, received_one, acts_of, orders_of, stays, step, step_by, outcome, outcome_by}
use Rattle.history_model.specs.MachineLaws.{AreInOrder, labels_of, concerns}
use Rattle.history_model.proofs.StepLemmas.{Rests, IsGood, good-step, refused-None}
use Rattle.history_model.proofs.OneLabelLemmas.{filter-stays, taken-other, rest-stays, rest-orders, all-filter, apart}
use Rattle.history_model.proofs.LabelOrderLemmas.{order-run, order-taken}
use Rattle.history_model.specs.Turns.{JobOrder, wanting, wants_answer, is_answer}
use Rattle.history_model.specs.AwaitedOrders.{IsFresh, AreFresh, weight, weigh_orders}
use Rattle.history_model.proofs.BooleanLemmas.{and-both}
use Rattle.history_model.proofs.WaitsLemmas.{weigh, lighter}
use Rattle.history_model.proofs.FreshOrdersLemmas.{all-append, fresh-with_orders, fresh-same, fresh-append, differ-sym}

pub weigh-append : (xs ys : List JobOrder) → weigh_orders (xs ++ ys) ≡ weigh_orders xs + weigh_orders ys
weigh-append [] ys = omega arith
weigh-append (x ∷ xs) ys = omega (arith, weigh-append xs ys)

pub weigh-wanting : (job_order : List JobOrder) → weigh_orders (wanting job_order) ≤ weigh_orders job_order
weigh-wanting [] = omega arith
weigh-wanting (one ∷ rest) = go (wants_answer one) (weigh-wanting rest) where
  go : (b : Bool) → weigh_orders (wanting rest) ≤ weigh_orders rest → weigh_orders (cond b (one ∷ wanting rest) (wanting rest)) ≤ weight one.1 + weigh_orders rest
  go true less = omega (arith, less)
  go false less = omega (arith, less)

pub weigh-labelled : (label : Label) (acts : List Act) → weigh_orders (map (λ act. (label, act)) acts) ≡ weigh acts
weigh-labelled label [] = refl
weigh-labelled label (act ∷ acts) = ap (λ n. weight act + n) (weigh-labelled label acts)

-- the state of a turn, with the orders that wait for an answer
pub record IsTurning (s : State) (waits : List JobOrder) : Type 0 where
  pub good : IsGood s
  pub order : AreInOrder (labels_of s.jobs)
  pub fresh : AreFresh s.jobs waits
  pub heavy : AllByRecursion (λ (job_order : JobOrder). 0 < weight job_order.1) waits

pub wanting-heavy : (job_order : List JobOrder) → AllByRecursion (λ (one : JobOrder). 0 < weight one.1) (wanting job_order)
wanting-heavy [] = tt
wanting-heavy ((label, Spawn run conn) ∷ rest) = (omega arith, wanting-heavy rest)
wanting-heavy ((label, Term run) ∷ rest) = (omega arith, wanting-heavy rest)
wanting-heavy ((label, Kill run) ∷ rest) = (omega arith, wanting-heavy rest)
wanting-heavy ((label, Close conn) ∷ rest) = wanting-heavy rest
wanting-heavy ((label, Gone) ∷ rest) = wanting-heavy rest

-- ---- the orders of an answer

-- an answer that its job hears makes that job give less
received-lighter : (m : Label) (act : Act) (a : Answer) (at : Reading) (jobs : List Job) → AllByRecursion (Rests at) jobs → IsFresh jobs (m, act) →
    refusal_at (past_in (first (filter (is_of m) jobs))) (Answered a) ≡ None → weigh_orders (wanting (flat_map orders_of (received_one m (Answered a) jobs))) < weight act
received-lighter m act a at [] rests fresh accepted = cc
received-lighter m act a at (job ∷ jobs) rests fresh accepted =
    go (received-lighter m act a at jobs rests.1) (is_of m job) refl fresh accepted where
      t2 : History
      t2 = Answered a ∷ job.past

      here : (t : History) → job.past ≡ Ordered act ∷ t → refusal_at (Some job.past) (Answered a) ≡ None →
          weigh_orders (wanting (map (λ act. (job.label, act)) (acts_of t2) ++ flat_map orders_of jobs)) < weight act
      here t is accepted =
          let none = rest-orders at jobs rests.1 in
          let less : weigh (acts_of t2) < weight act =
          subst (λ (past : History). weigh (acts_of (Answered a ∷ past)) < weight act) (sym is)
          (lighter act a t (subst IsLawful is rests.0.stands.lawful) (subst (λ (past : History). refusal_of (Answered a) past ≡ None) is accepted)) in
          let whole : map (λ act. (job.label, act)) (acts_of t2) ++ flat_map orders_of jobs ≡ map (λ act. (job.label, act)) (acts_of t2) =
          ap (λ (l : List JobOrder). map (λ act. (job.label, act)) (acts_of t2) ++ l) none ∙ append-nil (map (λ act. (job.label, act)) (acts_of t2)) in
          let at_most = weigh-wanting (map (λ act. (job.label, act)) (acts_of t2)) in
          rw whole (omega (arith, less, at_most, weigh-labelled job.label (acts_of t2)))

      go : (IsFresh jobs (m, act) → refusal_at (past_in (first (filter (is_of m) jobs))) (Answered a) ≡ None → weigh_orders (wanting (flat_map orders_of (received_one m (Answered a) jobs))) < weight act) →
          (b : Bool) → is_of m job ≡ b →
          ((t : History) × (past_in (first (cond b (job ∷ filter (is_of m) jobs) (filter (is_of m) jobs))) ≡ Some (Ordered act ∷ t))) →
          refusal_at (past_in (first (cond b (job ∷ filter (is_of m) jobs) (filter (is_of m) jobs)))) (Answered a) ≡ None →
          weigh_orders (wanting (flat_map orders_of (cond b (with_item job (Some (Answered a)) ∷ jobs) (job ∷ received_one m (Answered a) jobs)))) < weight act
      go rest true is fresh accepted =
          let past : job.past ≡ Ordered act ∷ fresh.0 = cc (fresh.1) in here fresh.0 past accepted
      go rest false is fresh accepted = rw (rests.0.staying, rests.0.idle) (rest fresh accepted)

-- and no other one
received-named : (m : Label) (x : Item) (at : Reading) (jobs : List Job) → AllByRecursion (Rests at) jobs → AllByRecursion (λ (job_order : JobOrder). is_same m job_order.0 ≡ true) (wanting (flat_map orders_of (received_one m x jobs)))
received-named m x at [] rests = tt
received-named m x at (job ∷ jobs) rests = go (received-named m x at jobs rests.1) (is_of m job) refl where
  own : is_same m job.label ≡ true → (acts : List Act) → AllByRecursion (λ (job_order : JobOrder). is_same m job_order.0 ≡ true) (wanting (map (λ act. (job.label, act)) acts))
  own named [] = tt
  own named (act ∷ acts) = pick (own named acts) (wants_answer (job.label, act)) where
    pick : AllByRecursion (λ (job_order : JobOrder). is_same m job_order.0 ≡ true) (wanting (map (λ act. (job.label, act)) acts)) → (b : Bool) →
        AllByRecursion (λ (job_order : JobOrder). is_same m job_order.0 ≡ true) (cond b ((job.label, act) ∷ wanting (map (λ act. (job.label, act)) acts)) (wanting (map (λ act. (job.label, act)) acts)))
    pick rest true = (named, rest)
    pick rest false = rest

  go : AllByRecursion (λ (job_order : JobOrder). is_same m job_order.0 ≡ true) (wanting (flat_map orders_of (received_one m x jobs))) → (b : Bool) → is_of m job ≡ b →
      AllByRecursion (λ (job_order : JobOrder). is_same m job_order.0 ≡ true) (wanting (flat_map orders_of (cond b (with_item job (Some x) ∷ jobs) (job ∷ received_one m x jobs))))
  go rest true is =
      let whole : map (λ act. (job.label, act)) (acts_of (x ∷ job.past)) ++ flat_map orders_of jobs ≡ map (λ act. (job.label, act)) (acts_of (x ∷ job.past)) =
      ap (λ (l : List JobOrder). map (λ act. (job.label, act)) (acts_of (x ∷ job.past)) ++ l) (rest-orders at jobs rests.1) ∙ append-nil (map (λ act. (job.label, act)) (acts_of (x ∷ job.past))) in
      rw whole (own is (acts_of (x ∷ job.past)))
  go rest false is = rw (rests.0.staying, rests.0.idle) rest

-- ---- the step

heavy : (a : Answer) (act : Act) → is_answer_to a act ≡ true → 0 < weight act
heavy a (Spawn run conn) e = omega arith
heavy a (Term run) e = omega arith
heavy a (Kill run) e = omega arith
heavy (Spawned run pid) (Close conn) e = cc
heavy (SpawnRefused run) (Close conn) e = cc
heavy (Termed run ok) (Close conn) e = cc
heavy (Killed run ok) (Close conn) e = cc
heavy (Spawned run pid) Gone e = cc
heavy (SpawnRefused run) Gone e = cc
heavy (Termed run ok) Gone e = cc
heavy (Killed run ok) Gone e = cc

-- the jobs of other labels are as they were
others-same : (s : State) (m : Label) (x : Item) (waits : List JobOrder) → AllByRecursion (Rests s.reading) s.jobs → AllByRecursion (λ (job_order : JobOrder). is_same m job_order.0 ≡ false) waits →
    AllByRecursion (λ (one : JobOrder). filter (is_of one.0) (filter_map stays (received_one m x s.jobs)) ≡ filter (is_of one.0) s.jobs) waits
others-same s m x [] rests differ = tt
others-same s m x (one ∷ waits) rests differ =
    let other : concerns one.0 (OfJob m x) ≡ false = differ-sym m one.0 differ.0 in
    let same : filter (is_of one.0) (received_one m x s.jobs) ≡ filter (is_of one.0) s.jobs = ap (λ (t : State). t.jobs) (taken-other one.0 s (OfJob m x) other) in
    let resting = all-filter (Rests s.reading) (is_of one.0) s.jobs rests in (
      filter-stays one.0 (received_one m x s.jobs) ∙ ap (filter_map stays) same ∙ rest-stays s.reading (filter (is_of one.0) s.jobs) resting,
      others-same s m x waits rests differ.1,
    )

all-apart : (m : Label) (xs ys : List JobOrder) → AllByRecursion (λ (x : JobOrder). is_same m x.0 ≡ false) xs → AllByRecursion (λ (y : JobOrder). is_same m y.0 ≡ true) ys →
    AllByRecursion (λ (x : JobOrder). AllByRecursion (λ (y : JobOrder). is_same x.0 y.0 ≡ false) ys) xs
all-apart m [] ys differ named = tt
all-apart m (x ∷ xs) ys differ named = (each ys named, all-apart m xs ys differ.1 named) where
  each : (ys : List JobOrder) → AllByRecursion (λ (y : JobOrder). is_same m y.0 ≡ true) ys → AllByRecursion (λ (y : JobOrder). is_same x.0 y.0 ≡ false) ys
  each [] named = tt
  each (y ∷ ys) named = (apart x.0 m y.0 (differ-sym m x.0 differ.0) named.0, each ys named.1)

-- one more answer: its orders come to those that wait, and are lighter than the answered one
pub turning-step : (s : State) (job_order : JobOrder) (waits : List JobOrder) (e : Event) → IsTurning s (job_order ∷ waits) → is_answer job_order e ≡ true →
    IsTurning (step s e) (waits ++ wanting (outcome s e).orders) × (weigh_orders (wanting (outcome s e).orders) < weight job_order.1)
turning-step s job_order waits (OfJob m (Answered a)) turning fits = go (refusal_in s (OfJob m (Answered a))) refl where
  parts : (is_same job_order.0 m ≡ true) × (is_answer_to a job_order.1 ≡ true)
  parts = and-both (is_same job_order.0 m) (is_answer_to a job_order.1) fits

  same : job_order.0 ≡ m
  same = same_text job_order.0 m (sym parts.0)

  x : Item
  x = Answered a

  go : (o : Option Refusal) → refusal_in s (OfJob m x) ≡ o →
      IsTurning (step_by o s (OfJob m x)) (waits ++ wanting (outcome_by o s (OfJob m x)).orders) × (weigh_orders (wanting (outcome_by o s (OfJob m x)).orders) < weight job_order.1)
  go (Some refusal) is = (
    record { good = turning.good; order = turning.order; fresh = rw append-nil turning.fresh.2; heavy = rw append-nil turning.heavy.1 },
    heavy a job_order.1 parts.1,
  )
  go None is =
      let accepted = refused-None (not (is_label m && is_received x)) BadRequest (refusal_at (past_of s m) x) is in
      let jobs : List Job = received_one m x s.jobs in
      let rests = turning.good.rests in
      let fresh : IsFresh s.jobs (m, job_order.1) = subst (λ (l : Label). IsFresh s.jobs (l, job_order.1)) same turning.fresh.0 in
      let differ : AllByRecursion (λ (one : JobOrder). is_same m one.0 ≡ false) waits = subst (λ (l : Label). AllByRecursion (λ (one : JobOrder). is_same l one.0 ≡ false) waits) same turning.fresh.1 in
      let new : AreFresh (filter_map stays jobs) (wanting (flat_map orders_of jobs)) = fresh-with_orders jobs (order-taken s (OfJob m x) is turning.order) in
      let old : AreFresh (filter_map stays jobs) waits = fresh-same s.jobs (filter_map stays jobs) waits (others-same s m x waits rests differ) turning.fresh.2 in
      let good : IsGood (step_by None s (OfJob m x)) = subst (λ (o : Option Refusal). IsGood (step_by o s (OfJob m x))) is (good-step s (OfJob m x) turning.good) in
      let order : AreInOrder (labels_of (step_by None s (OfJob m x)).jobs) = subst (λ (o : Option Refusal). AreInOrder (labels_of (step_by o s (OfJob m x)).jobs)) is (order-run (OfJob m x ∷ []) s turning.order) in (
        record {
          good = good;
          order = order;
          fresh = fresh-append (filter_map stays jobs) waits (wanting (flat_map orders_of jobs)) (all-apart m waits (wanting (flat_map orders_of jobs)) differ (received-named m x s.reading s.jobs rests)) old new;
          heavy = all-append (λ (job_order : JobOrder). 0 < weight job_order.1) waits (wanting (flat_map orders_of jobs)) turning.heavy.1 (wanting-heavy (flat_map orders_of jobs));
        },
        received-lighter m job_order.1 a s.reading s.jobs rests fresh accepted.1,
      )
turning-step s job_order waits _ turning fits = cc
