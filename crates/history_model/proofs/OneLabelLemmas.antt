-- One label's part of each step: what an event that concerns it does there, and that no other event does anything.
use Rattle.std.proofs.Common.{◌≡◌, ◌≢◌, Bool, true, false, not, ◌&&◌, cond, Option, Some, None, List, [], ◌∷◌, ◌++◌, refl, sym, ap, subst, ◌∙◌, map, nat_lt, length}
use Rattle.std.specs.Prelude.{Ok, Err}
use Rattle.std.specs.List.{filter, filter_map, flat_map, cons_option, AllByRecursion}
use Rattle.std.specs.Cmp.Lexicographic.{same_text}
use Rattle.history_model.specs.declared.Reading.{Reading}
use Rattle.history_model.specs.declared.event.Setting.{Setting}
use Rattle.history_model.specs.declared.Act.{Act}
use Rattle.history_model.specs.declared.Ask.TheVariants.{Unload, Shutdown}
use Rattle.history_model.specs.declared.Refusal.{Refusal}
use Rattle.history_model.specs.declared.Refusal.TheVariants.{TooManyJobs, ShuttingDown, Disabled, SocketRefused}
use Rattle.history_model.specs.declared.TheConstants.{MAX_JOBS}
use Rattle.history_model.specs.Items.{Definition, Item, Loaded, Read, Saw, Asked, History}
use Rattle.history_model.specs.Search.{or_else, first}
use Rattle.history_model.specs.Clock.{definition_of}
use Rattle.history_model.specs.Runs.{is_gone}
use Rattle.history_model.specs.Due.{due}
use Rattle.history_model.specs.FactsOfPast.{ordered}
use Rattle.history_model.specs.Calendar.{calendar_fires}
use Rattle.history_model.specs.Labels.{Label, is_same, is_before}
use Rattle.history_model.specs.Machine.{State, Job, Given, Event, Unreadable, Load, UnloadJob, Set, ListJobs, PrintJob, ShutDown, Tick, Observation, OfJob, is_of, sets, past_in, past_of, is_disabled}
use Rattle.history_model.specs.Acceptance.{refused_if, refusal_there, refusal_of_load, refusal_in, refusal_stored}
use Rattle.history_model.specs.Texts.{text_after, printed}
use Rattle.history_model.specs.Step.{Outcome, with_item, received, received_one, with_job, set_if, observation_of, taken, acts_of, orders_of, stays, with_orders, step_by, step, outcome_by, outcome, outcomes, orders_in}
use Rattle.history_model.specs.MachineLaws.{concerns, only, is_for, own, outcomes_of, HasRoom}
use Rattle.history_model.proofs.StepLemmas.{Rests, IsGood, good-step, refused-None, or_else-None}

-- ---- filters

pub filter-idem : {X : Type 0} (p : X → Bool) (xs : List X) → filter p (filter p xs) ≡ filter p xs
filter-idem p [] = refl
filter-idem {X} p (x ∷ xs) = go (filter-idem p xs) (p x) refl where
  go : filter p (filter p xs) ≡ filter p xs → (b : Bool) → p x ≡ b → filter p (cond b (x ∷ filter p xs) (filter p xs)) ≡ cond b (x ∷ filter p xs) (filter p xs)
  go rest true e = rw (e, rest) refl
  go rest false e = rest

filter-++ : {X : Type 0} (p : X → Bool) (xs ys : List X) → filter p (xs ++ ys) ≡ filter p xs ++ filter p ys
filter-++ p [] ys = refl
filter-++ {X} p (x ∷ xs) ys = go (filter-++ p xs ys) (p x) where
  go : filter p (xs ++ ys) ≡ filter p xs ++ filter p ys → (b : Bool) → cond b (x ∷ filter p (xs ++ ys)) (filter p (xs ++ ys)) ≡ cond b (x ∷ filter p xs) (filter p xs) ++ filter p ys
  go rest true = ap (λ (l : List X). x ∷ l) rest
  go rest false = rest

pub first-None : {X : Type 0} (xs : List X) → first xs ≡ None → xs ≡ []
first-None [] e = refl
first-None (x ∷ xs) e = cc

-- ---- labels

-- who has one label does not have another
pub apart : (l m k : Label) → is_same l m ≡ false → is_same m k ≡ true → is_same l k ≡ false
apart l m k differ same = rw (← same_text m k (sym same)) differ

with_item-label : (job : Job) (x : Option Item) → (with_item job x).label ≡ job.label
with_item-label job None = refl
with_item-label job (Some x) = refl

-- ---- one label's jobs

module _ (l : Label) where
  pub filter-received : (item : Job → Option Item) (jobs : List Job) → filter (is_of l) (received item jobs) ≡ received item (filter (is_of l) jobs)
  filter-received item [] = refl
  filter-received item (job ∷ jobs) = rw (with_item-label job (item job), filter-received item jobs) (go (is_of l job)) where
    go : (b : Bool) → cond b (with_item job (item job) ∷ received item (filter (is_of l) jobs)) (received item (filter (is_of l) jobs)) ≡ received item (cond b (job ∷ filter (is_of l) jobs) (filter (is_of l) jobs))
    go true = refl
    go false = refl

  pub filter-received_one : (x : Item) (jobs : List Job) → filter (is_of l) (received_one l x jobs) ≡ received_one l x (filter (is_of l) jobs)
  filter-received_one x [] = refl
  filter-received_one x (job ∷ jobs) = go (filter-received_one x jobs) (is_of l job) refl where
    go : filter (is_of l) (received_one l x jobs) ≡ received_one l x (filter (is_of l) jobs) → (b : Bool) → is_of l job ≡ b →
        filter (is_of l) (cond b (with_item job (Some x) ∷ jobs) (job ∷ received_one l x jobs)) ≡ received_one l x (cond b (job ∷ filter (is_of l) jobs) (filter (is_of l) jobs))
    go rest true e = rw e refl
    go rest false e = rw e rest

  pub filter-received_other : (m : Label) → is_same l m ≡ false → (x : Item) (jobs : List Job) → filter (is_of l) (received_one m x jobs) ≡ filter (is_of l) jobs
  filter-received_other m differ x [] = refl
  filter-received_other m differ x (job ∷ jobs) = go (filter-received_other m differ x jobs) (is_of m job) refl where
    go : filter (is_of l) (received_one m x jobs) ≡ filter (is_of l) jobs → (b : Bool) → is_of m job ≡ b →
        filter (is_of l) (cond b (with_item job (Some x) ∷ jobs) (job ∷ received_one m x jobs)) ≡ cond (is_of l job) (job ∷ filter (is_of l) jobs) (filter (is_of l) jobs)
    go rest true e = let away : is_of l job ≡ false = apart l m job.label differ e in rw away refl
    go rest false e = rw rest refl

  pub filter-with_job : (new : Job) → is_of l new ≡ true → (jobs : List Job) → filter (is_of l) jobs ≡ [] → filter (is_of l) (with_job new jobs) ≡ new ∷ []
  filter-with_job new same [] empty = rw same refl
  filter-with_job new same (job ∷ jobs) empty = go (filter-with_job new same jobs) (is_of l job) refl empty (is_before new.label job.label) where
    go : (filter (is_of l) jobs ≡ [] → filter (is_of l) (with_job new jobs) ≡ new ∷ []) → (b : Bool) → is_of l job ≡ b → cond b (job ∷ filter (is_of l) jobs) (filter (is_of l) jobs) ≡ [] →
        (v : Bool) → filter (is_of l) (cond v (new ∷ job ∷ jobs) (job ∷ with_job new jobs)) ≡ new ∷ []
    go rest true e none v = cc
    go rest false e none true = rw (same, e, none) refl
    go rest false e none false = rw (e, rest none) refl

  pub filter-with_other : (new : Job) → is_of l new ≡ false → (jobs : List Job) → filter (is_of l) (with_job new jobs) ≡ filter (is_of l) jobs
  filter-with_other new differ [] = rw differ refl
  filter-with_other new differ (job ∷ jobs) = go (filter-with_other new differ jobs) (is_before new.label job.label) where
    go : filter (is_of l) (with_job new jobs) ≡ filter (is_of l) jobs → (v : Bool) →
        filter (is_of l) (cond v (new ∷ job ∷ jobs) (job ∷ with_job new jobs)) ≡ cond (is_of l job) (job ∷ filter (is_of l) jobs) (filter (is_of l) jobs)
    go rest true = rw differ refl
    go rest false = rw rest refl

  pub filter-stays : (jobs : List Job) → filter (is_of l) (filter_map stays jobs) ≡ filter_map stays (filter (is_of l) jobs)
  filter-stays [] = refl
  filter-stays (job ∷ jobs) = go (filter-stays jobs) (is_gone job.past) refl (is_of l job) refl where
    go : filter (is_of l) (filter_map stays jobs) ≡ filter_map stays (filter (is_of l) jobs) → (g : Bool) → is_gone job.past ≡ g → (b : Bool) → is_of l job ≡ b →
        filter (is_of l) (cons_option (cond g None (Some (record job { past = ordered (due job.past) job.past }))) (filter_map stays jobs))
        ≡ filter_map stays (cond b (job ∷ filter (is_of l) jobs) (filter (is_of l) jobs))
    go rest true eg true eb = rw (eg, rest) refl
    go rest true eg false eb = rest
    go rest false eg true eb = rw (eg, eb, rest) refl
    go rest false eg false eb = rw (eb, rest) refl

  own_acts : (label : Label) (acts : List Act) → filter (is_for l) (map (λ act. (label, act)) acts) ≡ cond (is_same l label) (map (λ act. (label, act)) acts) []
  own_acts label [] = go (is_same l label) where
    nothing : List (Label × Act)
    nothing = []

    go : (b : Bool) → nothing ≡ cond b nothing nothing
    go true = refl
    go false = refl
  own_acts label (act ∷ acts) = go (own_acts label acts) (is_same l label) refl where
    go : filter (is_for l) (map (λ act. (label, act)) acts) ≡ cond (is_same l label) (map (λ act. (label, act)) acts) [] → (b : Bool) → is_same l label ≡ b →
        cond b ((label, act) ∷ filter (is_for l) (map (λ act. (label, act)) acts)) (filter (is_for l) (map (λ act. (label, act)) acts)) ≡ cond b ((label, act) ∷ map (λ act. (label, act)) acts) []
    go rest true e = rw (rest, e) refl
    go rest false e = rw (rest, e) refl

  pub filter-orders : (jobs : List Job) → filter (is_for l) (flat_map orders_of jobs) ≡ flat_map orders_of (filter (is_of l) jobs)
  filter-orders [] = refl
  filter-orders (job ∷ jobs) =
      filter-++ (is_for l) (orders_of job) (flat_map orders_of jobs)
      ∙ (λ i. own_acts job.label (acts_of job.past) i ++ filter-orders jobs i)
      ∙ go (is_of l job) where
        go : (b : Bool) → cond b (orders_of job) [] ++ flat_map orders_of (filter (is_of l) jobs) ≡ flat_map orders_of (cond b (job ∷ filter (is_of l) jobs) (filter (is_of l) jobs))
        go true = refl
        go false = refl

-- ---- jobs that rest give nothing

pub rest-stays : (at : Reading) (jobs : List Job) → AllByRecursion (Rests at) jobs → filter_map stays jobs ≡ jobs
rest-stays at [] all = refl
rest-stays at (job ∷ jobs) all = rw (all.0.staying, all.0.idle, rest-stays at jobs all.1) refl

pub rest-orders : (at : Reading) (jobs : List Job) → AllByRecursion (Rests at) jobs → flat_map orders_of jobs ≡ []
rest-orders at [] all = refl
rest-orders at (job ∷ jobs) all = rw (all.0.staying, all.0.idle, rest-orders at jobs all.1) refl

pub all-filter : {X : Type 0} (P : X → Type 0) (p : X → Bool) (xs : List X) → AllByRecursion P xs → AllByRecursion P (filter p xs)
all-filter P p [] all = tt
all-filter {X} P p (x ∷ xs) all = go (all-filter P p xs all.1) (p x) where
  go : AllByRecursion P (filter p xs) → (b : Bool) → AllByRecursion P (cond b (x ∷ filter p xs) (filter p xs))
  go rest true = (all.0, rest)
  go rest false = rest

-- ---- an event that concerns the label

module _ (l : Label) where
  loading : (s : State) (d : Definition) (writes_setting force bind store : Bool) → refusal_of_load s l d writes_setting force bind store ≢ Some TooManyJobs →
      refusal_of_load (only l s) l d writes_setting force bind store ≡ refusal_of_load s l d writes_setting force bind store
  loading s d writes_setting force bind store room =
      rw (filter-idem (is_of l) s.jobs, filter-idem (sets l) s.settings) (go s.is_shutting_down (filter (is_of l) s.jobs) (nat_lt (length s.jobs) MAX_JOBS) room) where
        rest : Option Refusal
        rest = refused_if (not writes_setting && not force && is_disabled s l d.disabled) Disabled (refused_if (d.has_sockets && not bind) SocketRefused (refusal_stored writes_setting store))

        go : (b : Bool) (jobs : List Job) (v : Bool) →
            refused_if b ShuttingDown (or_else (refusal_there (past_in (first jobs))) (refused_if (not v) TooManyJobs rest)) ≢ Some TooManyJobs →
            refused_if b ShuttingDown (or_else (refusal_there (past_in (first jobs))) (refused_if (not (nat_lt (length jobs) MAX_JOBS)) TooManyJobs rest))
            ≡ refused_if b ShuttingDown (or_else (refusal_there (past_in (first jobs))) (refused_if (not v) TooManyJobs rest))
        go true jobs v room = refl
        go false [] true room = refl
        go false [] false room = absurd (room refl)
        go false (job ∷ jobs) v room = refl

  -- it is refused alike
  pub refusal-only : (s : State) (e : Event) → concerns l e ≡ true → refusal_in s e ≢ Some TooManyJobs → refusal_in (only l s) e ≡ refusal_in s e
  refusal-only s Unreadable named room = cc
  refusal-only s (Load (Err fault) writes_setting force bind store) named room = cc
  refusal-only s (Load (Ok given) writes_setting force bind store) named room =
      subst (λ (m : Label). refusal_of_load s m given.definition writes_setting force bind store ≢ Some TooManyJobs → refusal_of_load (only l s) m given.definition writes_setting force bind store ≡ refusal_of_load s m given.definition writes_setting force bind store)
      (same_text l given.label (sym named)) (loading s given.definition writes_setting force bind store) room
  refusal-only s (UnloadJob m writes_setting store) named room = rw (← same_text l m (sym named), filter-idem (is_of l) s.jobs) refl
  refusal-only s (Set m disabled store) named room = refl
  refusal-only s ListJobs named room = cc
  refusal-only s (PrintJob m) named room = rw (← same_text l m (sym named), filter-idem (is_of l) s.jobs) refl
  refusal-only s ShutDown named room = refl
  refusal-only s (Tick at) named room = refl
  refusal-only s (Observation path obs) named room = refl
  refusal-only s (OfJob m item) named room = rw (← same_text l m (sym named), filter-idem (is_of l) s.jobs) refl

  set_named : (m : Label) → is_same l m ≡ true → (b disabled : Bool) (settings : List Setting) → set_if b m disabled (filter (sets l) settings) ≡ filter (sets l) (set_if b m disabled settings)
  set_named m named true disabled settings = rw named refl
  set_named m named false disabled settings = refl

  received_named : (m : Label) → is_same l m ≡ true → (x : Item) (jobs : List Job) → received_one m x (filter (is_of l) jobs) ≡ filter (is_of l) (received_one m x jobs)
  received_named m named x jobs = rw (← same_text l m (sym named)) (sym (filter-received_one l x jobs))

  set_other : (m : Label) → is_same l m ≡ false → (b disabled : Bool) (settings : List Setting) → filter (sets l) (set_if b m disabled settings) ≡ filter (sets l) settings
  set_other m differ true disabled settings = rw differ refl
  set_other m differ false disabled settings = refl

  refused_named : (s : State) (label : Label) (d : Definition) (writes_setting force bind store : Bool) → refusal_of_load s label d writes_setting force bind store ≡ None → past_of s label ≡ None
  refused_named s label d writes_setting force bind store accepted =
      let open_still = refused-None s.is_shutting_down ShuttingDown _ accepted in
      there (past_of s label) (or_else-None (refusal_there (past_of s label)) _ open_still.1).0 where
        there : (o : Option History) → refusal_there o ≡ None → o ≡ None
        there None e = refl
        there (Some past) e = cc

  unloaded : (o : Option Job) → past_in o ≡ None → o ≡ None
  unloaded None e = refl
  unloaded (Some job) e = cc

  -- before an accepted load the label has no job
  pub absent : (s : State) (given : Given) (writes_setting force bind store : Bool) → concerns l (Load (Ok given) writes_setting force bind store) ≡ true →
      refusal_in s (Load (Ok given) writes_setting force bind store) ≡ None → filter (is_of l) s.jobs ≡ []
  absent s given writes_setting force bind store named accepted =
      let same : l ≡ given.label = same_text l given.label (sym named) in
      let unknown : past_of s given.label ≡ None = refused_named s given.label given.definition writes_setting force bind store accepted in
      first-None (filter (is_of l) s.jobs) (unloaded (first (filter (is_of l) s.jobs)) (rw same unknown))

  -- it is taken alike
  pub taken-only : (s : State) (e : Event) → concerns l e ≡ true → refusal_in s e ≡ None → taken (only l s) e ≡ only l (taken s e)
  taken-only s Unreadable named accepted = cc
  taken-only s (Load (Err fault) writes_setting force bind store) named accepted = cc
  taken-only s (Load (Ok given) writes_setting force bind store) named accepted =
      let empty = absent s given writes_setting force bind store named accepted in
      let new : Job = record { label = given.label; past = Loaded given.definition s.reading ∷ [] } in
      let jobs : with_job new (filter (is_of l) s.jobs) ≡ filter (is_of l) (with_job new s.jobs) = rw (empty, filter-with_job l new named s.jobs empty) refl in
      λ i. record (only l s) { settings = set_named given.label named writes_setting false s.settings i; jobs = jobs i }
  taken-only s (UnloadJob m writes_setting store) named accepted =
      λ i. record (only l s) { settings = set_named m named writes_setting true s.settings i; jobs = received_named m named (Asked Unload) s.jobs i }
  taken-only s (Set m disabled store) named accepted =
      λ i. record (only l s) { settings = set_named m named true disabled s.settings i }
  taken-only s ListJobs named accepted = cc
  taken-only s (PrintJob m) named accepted = refl
  taken-only s ShutDown named accepted =
      λ i. record (only l s) { is_shutting_down = true; jobs = sym (filter-received l (λ job. Some (Asked Shutdown)) s.jobs) i }
  taken-only s (Tick at) named accepted =
      λ i. record (only l s) { reading = at; jobs = sym (filter-received l (λ job. Some (Read at (calendar_fires s.zone (definition_of job.past).calendar s.reading.wall at.wall))) s.jobs) i }
  taken-only s (Observation path obs) named accepted =
      λ i. record (only l s) { jobs = sym (filter-received l (observation_of path (Saw path obs)) s.jobs) i }
  taken-only s (OfJob m item) named accepted =
      λ i. record (only l s) { jobs = received_named m named item s.jobs i }

  pub with_orders-only : (s : State) → with_orders (only l s) ≡ only l (with_orders s)
  with_orders-only s = λ i. record (only l s) { jobs = sym (filter-stays l s.jobs) i }

  -- what it is answered is alike
  text-only : (e : Event) (s : State) → concerns l e ≡ true → text_after e (only l s) ≡ text_after e s
  text-only Unreadable s named = cc
  text-only (Load (Err fault) writes_setting force bind store) s named = cc
  text-only (Load (Ok given) writes_setting force bind store) s named = refl
  text-only (UnloadJob m writes_setting store) s named = refl
  text-only (Set m disabled store) s named = refl
  text-only ListJobs s named = cc
  text-only (PrintJob m) s named = rw (← same_text l m (sym named), filter-idem (is_of l) s.jobs) (printing (first (filter (is_of l) s.jobs))) where
    printing : (o : Option Job) → printed (only l s) l (past_in o) ≡ printed s l (past_in o)
    printing None = refl
    printing (Some job) = rw (filter-idem (sets l) s.settings) refl
  text-only ShutDown s named = refl
  text-only (Tick at) s named = refl
  text-only (Observation path obs) s named = refl
  text-only (OfJob m item) s named = refl

  -- so it does there what it does among others
  pub step-only : (s : State) (e : Event) → concerns l e ≡ true → refusal_in s e ≢ Some TooManyJobs → step (only l s) e ≡ only l (step s e)
  step-only s e named room = (λ i. step_by (refusal-only s e named room i) (only l s) e) ∙ go (refusal_in s e) refl where
    go : (o : Option Refusal) → refusal_in s e ≡ o → step_by o (only l s) e ≡ only l (step_by o s e)
    go (Some r) is = refl
    go None is = ap with_orders (taken-only s e named is) ∙ with_orders-only (taken s e)

  pub outcome-only : (s : State) (e : Event) → concerns l e ≡ true → refusal_in s e ≢ Some TooManyJobs → outcome (only l s) e ≡ own l (outcome s e)
  outcome-only s e named room = (λ i. outcome_by (refusal-only s e named room i) (only l s) e) ∙ go (refusal_in s e) refl where
    go : (o : Option Refusal) → refusal_in s e ≡ o → outcome_by o (only l s) e ≡ own l (outcome_by o s e)
    go (Some r) is = refl
    go None is =
        let same = taken-only s e named is in
        let orders = ap (λ (t : State). flat_map orders_of t.jobs) same ∙ sym (filter-orders l (taken s e).jobs) in
        let text = ap (λ (t : State). text_after e (with_orders t)) same ∙ ap (text_after e) (with_orders-only (taken s e)) ∙ text-only e (with_orders (taken s e)) named in
        λ i. record { refusal = None; orders = orders i; text = text i }

  -- ---- any other event

  pub taken-other : (s : State) (e : Event) → concerns l e ≡ false → only l (taken s e) ≡ only l s
  taken-other s Unreadable other = refl
  taken-other s (Load (Err fault) writes_setting force bind store) other = refl
  taken-other s (Load (Ok given) writes_setting force bind store) other =
      λ i. record (only l s) {
        settings = set_other given.label other writes_setting false s.settings i;
        jobs = filter-with_other l (record { label = given.label; past = Loaded given.definition s.reading ∷ [] }) other s.jobs i;
      }
  taken-other s (UnloadJob m writes_setting store) other =
      λ i. record (only l s) { settings = set_other m other writes_setting true s.settings i; jobs = filter-received_other l m other (Asked Unload) s.jobs i }
  taken-other s (Set m disabled store) other = λ i. record (only l s) { settings = set_other m other true disabled s.settings i }
  taken-other s ListJobs other = refl
  taken-other s (PrintJob m) other = refl
  taken-other s ShutDown other = cc
  taken-other s (Tick at) other = cc
  taken-other s (Observation path obs) other = cc
  taken-other s (OfJob m item) other = λ i. record (only l s) { jobs = filter-received_other l m other item s.jobs i }

  pub resting-only : (s : State) → IsGood s → AllByRecursion (Rests s.reading) (filter (is_of l) s.jobs)
  resting-only s good = all-filter (Rests s.reading) (is_of l) s.jobs good.rests

  pub step-other : (s : State) (e : Event) → IsGood s → concerns l e ≡ false → only l (step s e) ≡ only l s
  step-other s e good other = go (refusal_in s e) where
    go : (o : Option Refusal) → only l (step_by o s e) ≡ only l s
    go (Some r) = refl
    go None =
        sym (with_orders-only (taken s e)) ∙ ap with_orders (taken-other s e other)
        ∙ (λ i. record (only l s) { jobs = rest-stays s.reading (filter (is_of l) s.jobs) (resting-only s good) i })

  pub orders-other : (s : State) (e : Event) → IsGood s → concerns l e ≡ false → filter (is_for l) (outcome s e).orders ≡ []
  orders-other s e good other = go (refusal_in s e) where
    go : (o : Option Refusal) → filter (is_for l) (outcome_by o s e).orders ≡ []
    go (Some r) = refl
    go None =
        filter-orders l (taken s e).jobs ∙ ap (λ (t : State). flat_map orders_of t.jobs) (taken-other s e other)
        ∙ rest-orders s.reading (filter (is_of l) s.jobs) (resting-only s good)

  -- ---- whole runs

  pub outcomes-only : (es : List Event) (s : State) → IsGood s → HasRoom l es s → outcomes_of l es s ≡ outcomes (filter (concerns l) es) (only l s)
  outcomes-only [] s good room = refl
  outcomes-only (e ∷ es) s good room = go (outcomes-only es (step s e) (good-step s e good) room.1) (concerns l e) refl where
    go : outcomes_of l es (step s e) ≡ outcomes (filter (concerns l) es) (only l (step s e)) → (b : Bool) → concerns l e ≡ b →
        cond b (own l (outcome s e) ∷ outcomes_of l es (step s e)) (outcomes_of l es (step s e)) ≡ outcomes (cond b (e ∷ filter (concerns l) es) (filter (concerns l) es)) (only l s)
    go rest true named = λ i. sym (outcome-only s e named (room.0 named)) i ∷ (rest ∙ ap (outcomes (filter (concerns l) es)) (sym (step-only s e named (room.0 named)))) i
    go rest false other = rest ∙ ap (outcomes (filter (concerns l) es)) (step-other s e good other)

  orders_own : (es : List Event) (s : State) → IsGood s → filter (is_for l) (orders_in es s) ≡ flat_map (λ (given : Outcome). given.orders) (outcomes_of l es s)
  orders_own [] s good = refl
  orders_own (e ∷ es) s good =
      filter-++ (is_for l) (outcome s e).orders (orders_in es (step s e))
      ∙ ap (λ (more : List (Label × Act)). filter (is_for l) (outcome s e).orders ++ more) (orders_own es (step s e) (good-step s e good))
      ∙ go (concerns l e) refl where
        go : (b : Bool) → concerns l e ≡ b → filter (is_for l) (outcome s e).orders ++ flat_map (λ (given : Outcome). given.orders) (outcomes_of l es (step s e))
            ≡ flat_map (λ (given : Outcome). given.orders) (cond b (own l (outcome s e) ∷ outcomes_of l es (step s e)) (outcomes_of l es (step s e)))
        go true named = refl
        go false other = rw (orders-other s e good other) refl

  pub orders-only : (es : List Event) (s : State) → IsGood s → HasRoom l es s → filter (is_for l) (orders_in es s) ≡ orders_in (filter (concerns l) es) (only l s)
  orders-only es s good room = orders_own es s good ∙ ap (flat_map (λ (given : Outcome). given.orders)) (outcomes-only es s good room)
