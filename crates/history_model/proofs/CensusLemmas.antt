-- Over all loads of a label, each spawn that succeeded has ended, but for the one that is running.
use Rattle.std.proofs.Common.{◌≡◌, ℕ, ◌+◌, ◌≤◌, Bool, true, false, not, ◌&&◌, cond, Option, Some, None, is_some, List, [], ◌∷◌, ◌++◌, refl, sym, ap, ◌∙◌, length, arith, append-nil}
use Rattle.std.specs.Prelude.{Ok, Err}
use Rattle.std.specs.List.{filter, filter_map, flat_map, cons_option, AllByRecursion}
use Rattle.std.specs.Cmp.Lexicographic.{same_text}
use Rattle.history_model.specs.declared.Reading.{Reading}
use Rattle.history_model.specs.declared.Answer.TheVariants.{Spawned, SpawnRefused, Termed, Killed}
use Rattle.history_model.specs.declared.Ask.TheVariants.{Start, Stop, Unload, Shutdown, Kickstart}
use Rattle.history_model.specs.declared.Refusal.{Refusal}
use Rattle.history_model.specs.declared.Refusal.TheVariants.{BadRequest}
use Rattle.history_model.specs.Items.{Item, Loaded, Read, Saw, Asked, Came, Left, Ordered, Answered, RunEnded, WaitRefused, History}
use Rattle.history_model.specs.Search.{first}
use Rattle.history_model.specs.Clock.{definition_of}
use Rattle.history_model.specs.Runs.{is_gone, living}
use Rattle.history_model.specs.Due.{due}
use Rattle.history_model.specs.Refusals.{refusal_of, IsLawful}
use Rattle.history_model.specs.FactsOfPast.{ordered}
use Rattle.history_model.specs.Calendar.{calendar_fires}
use Rattle.history_model.specs.Labels.{Label, is_label, is_same}
use Rattle.history_model.specs.Machine.{State, Job, Event, Unreadable, Load, UnloadJob, Set, ListJobs, PrintJob, ShutDown, Tick, Observation, OfJob, is_of, past_in, past_of}
use Rattle.history_model.specs.Acceptance.{is_received, refusal_at, refusal_in}
use Rattle.history_model.specs.Step.{with_item, received, received_one, lists, observation_of, taken, stays, with_orders, step_by, step, run}
use Rattle.history_model.specs.MachineLaws.{living_in, concerns, only}
use Rattle.history_model.specs.RunCounts.{is_start_of, is_finish_of, is_taken_as, count_taken}
use Rattle.history_model.proofs.BooleanLemmas.{and-both, not-false}
use Rattle.history_model.proofs.LawfulLemmas.{Answers-from, IsChild-from}
use Rattle.history_model.proofs.RunsLemmas.{sound, spawned-awaited, spawned-living, child-present, ended-living}
use Rattle.history_model.proofs.StepLemmas.{Rests, IsGood, good-step, refused-None}
use Rattle.history_model.proofs.LiftedLemmas.{gone-living}
use Rattle.history_model.proofs.OneLabelLemmas.{filter-idem, absent, taken-only, with_orders-only, step-other, resting-only}
use Rattle.history_model.proofs.FewLoadsLemmas.{IsFew, few-step}
use Rattle.history_model.specs.declared.Child.{Child}

-- the runs that live in these jobs
abbrev alive : List Job → List Child
alive jobs = flat_map (λ job. living job.past) jobs

-- one if it holds
abbrev ones : Bool → ℕ
ones b = cond b 1 0

-- ---- jobs that are asked

living-ordered : (t : History) → living (ordered (due t) t) ≡ living t
living-ordered t = go (due t) where
  go : (o : Option _) → living (ordered o t) ≡ living t
  go None = refl
  go (Some act) = refl

alive-stays : (jobs : List Job) → alive (filter_map stays jobs) ≡ alive jobs
alive-stays [] = refl
alive-stays (job ∷ jobs) = go (alive-stays jobs) (is_gone job.past) refl where
  go : alive (filter_map stays jobs) ≡ alive jobs → (g : Bool) → is_gone job.past ≡ g →
      alive (cons_option (cond g None (Some (record job { past = ordered (due job.past) job.past }))) (filter_map stays jobs)) ≡ living job.past ++ alive jobs
  go rest true e = rw (gone-living job.past e, rest) refl
  go rest false e = rw (living-ordered job.past, rest) refl

-- ---- items of every job

alive-received : (item : Job → Option Item) → ((job : Job) → living (with_item job (item job)).past ≡ living job.past) → (jobs : List Job) → alive (received item jobs) ≡ alive jobs
alive-received item same [] = refl
alive-received item same (job ∷ jobs) = λ i. same job i ++ alive-received item same jobs i

living-observation : (path : List ℕ) (obs : _) (job : Job) → living (with_item job (observation_of path (Saw path obs) job)).past ≡ living job.past
living-observation path obs job = go (lists (definition_of job.past) path) where
  go : (b : Bool) → living (with_item job (cond b (Some (Saw path obs)) None)).past ≡ living job.past
  go true = refl
  go false = refl

alive-received_one : (label : Label) (x : Item) → ((job : Job) → living (x ∷ job.past) ≡ living job.past) → (jobs : List Job) → alive (received_one label x jobs) ≡ alive jobs
alive-received_one label x same [] = refl
alive-received_one label x same (job ∷ jobs) = go (alive-received_one label x same jobs) (is_of label job) where
  go : alive (received_one label x jobs) ≡ alive jobs → (b : Bool) → alive (cond b (with_item job (Some x) ∷ jobs) (job ∷ received_one label x jobs)) ≡ living job.past ++ alive jobs
  go rest true = λ i. same job i ++ alive jobs
  go rest false = λ i. living job.past ++ rest i

-- ---- an item of one job

abbrev is_start : Item → Bool
is_start (Answered (Spawned run pid)) = true
is_start _ = false

abbrev is_finish : Item → Bool
is_finish (RunEnded run how) = true
is_finish _ = false

start_of : (l m : Label) → is_same l m ≡ true → (x : Item) → is_start_of l (OfJob m x) ≡ is_start x
start_of l m same (Answered (Spawned run pid)) = same
start_of l m same (Answered (SpawnRefused run)) = refl
start_of l m same (Answered (Termed run ok)) = refl
start_of l m same (Answered (Killed run ok)) = refl
start_of l m same (Loaded d at) = refl
start_of l m same (Read at calendar) = refl
start_of l m same (Saw path obs) = refl
start_of l m same (Asked ask) = refl
start_of l m same (Came conn) = refl
start_of l m same (Left conn) = refl
start_of l m same (Ordered act) = refl
start_of l m same (RunEnded run how) = refl
start_of l m same (WaitRefused run) = refl

finish_of : (l m : Label) → is_same l m ≡ true → (x : Item) → is_finish_of l (OfJob m x) ≡ is_finish x
finish_of l m same (RunEnded run how) = same
finish_of l m same (Answered answer) = refl
finish_of l m same (Loaded d at) = refl
finish_of l m same (Read at calendar) = refl
finish_of l m same (Saw path obs) = refl
finish_of l m same (Asked ask) = refl
finish_of l m same (Came conn) = refl
finish_of l m same (Left conn) = refl
finish_of l m same (Ordered act) = refl
finish_of l m same (WaitRefused run) = refl

-- a spawn that succeeds adds the one run that is running, an end takes it away, and no other item does either
received-living : (x : Item) (t : History) → is_received x ≡ true → refusal_of x t ≡ None → IsLawful t →
    ones (is_start x) + length (living t) ≡ ones (is_finish x) + length (living (x ∷ t))
received-living (Answered (Spawned run pid)) t received accepted lawful =
    let order = spawned-awaited t run pid (Answers-from t (Spawned run pid) accepted) in
    let fresh = (sound t lawful).1 run order.0 order.1 in
    rw (spawned-living t run pid fresh, fresh.3) refl
received-living (RunEnded run how) t received accepted lawful =
    let fact = IsChild-from t run accepted in
    let one = child-present t (record { run = run; pid = fact.pid }) (sound t lawful).0 fact.stands in
    rw (ended-living t run how (record { run = run; pid = fact.pid }) refl one.1, one.1) refl
received-living (Asked Start) t received accepted lawful = refl
received-living (Asked Stop) t received accepted lawful = refl
received-living (Asked (Kickstart kills_first)) t received accepted lawful = refl
received-living (Came conn) t received accepted lawful = refl
received-living (Left conn) t received accepted lawful = refl
received-living (Answered (SpawnRefused run)) t received accepted lawful = refl
received-living (Answered (Termed run ok)) t received accepted lawful = refl
received-living (Answered (Killed run ok)) t received accepted lawful = refl
received-living (WaitRefused run) t received accepted lawful = refl
received-living _ t received accepted lawful = cc

-- the label's only job
received-one : (l : Label) (x : Item) (at : Reading) (jobs : List Job) → filter (is_of l) jobs ≡ jobs → length jobs ≤ 1 → AllByRecursion (Rests at) jobs →
    is_received x ≡ true → refusal_at (past_in (first jobs)) x ≡ None → ones (is_start x) + length (alive jobs) ≡ ones (is_finish x) + length (alive (received_one l x jobs))
received-one l x at [] own few all received accepted = cc
received-one l x at (job ∷ other ∷ jobs) own few all received accepted = absurd (omega (arith, few))
received-one l x at (job ∷ []) own few all received accepted = go (is_of l job) refl own where
  one : ones (is_start x) + length (living job.past) ≡ ones (is_finish x) + length (living (x ∷ job.past))
  one = received-living x job.past received accepted all.0.stands.lawful

  go : (b : Bool) → is_of l job ≡ b → cond b (job ∷ []) [] ≡ job ∷ [] →
      ones (is_start x) + length (living job.past ++ []) ≡ ones (is_finish x) + length (alive (cond b (with_item job (Some x) ∷ []) (job ∷ [])))
  go true is own = rw (append-nil, append-nil) one
  go false is own = cc

-- ---- an accepted event

-- how many lives it begins, and how many it ends
balance : (l : Label) (s : State) (e : Event) → IsGood s → length (filter (is_of l) s.jobs) ≤ 1 → concerns l e ≡ true → refusal_in s e ≡ None →
    ones (is_start_of l e) + length (alive (filter (is_of l) s.jobs)) ≡ ones (is_finish_of l e) + length (alive (taken (only l s) e).jobs)
balance l s Unreadable good few named accepted = cc
balance l s (Load (Err fault) writes_setting force bind store) good few named accepted = cc
balance l s (Load (Ok given) writes_setting force bind store) good few named accepted = rw (absent l s given writes_setting force bind store named accepted) refl
balance l s (UnloadJob m writes_setting store) good few named accepted = rw (alive-received_one m (Asked Unload) (λ job. refl) (filter (is_of l) s.jobs)) refl
balance l s (Set m disabled store) good few named accepted = refl
balance l s ListJobs good few named accepted = cc
balance l s (PrintJob m) good few named accepted = refl
balance l s ShutDown good few named accepted = rw (alive-received (λ job. Some (Asked Shutdown)) (λ job. refl) (filter (is_of l) s.jobs)) refl
balance l s (Tick at) good few named accepted =
    rw (alive-received (λ job. Some (Read at (calendar_fires s.zone (definition_of job.past).calendar s.reading.wall at.wall))) (λ job. refl) (filter (is_of l) s.jobs)) refl
balance l s (Observation path obs) good few named accepted = rw (alive-received (observation_of path (Saw path obs)) (living-observation path obs) (filter (is_of l) s.jobs)) refl
balance l s (OfJob m x) good few named accepted =
    let allowed = refused-None (not (is_label m && is_received x)) BadRequest (refusal_at (past_of s m) x) accepted in
    let received = and-both (is_label m) (is_received x) (not-false (is_label m && is_received x) allowed.0) in
    let known : refusal_at (past_in (first (filter (is_of l) s.jobs))) x ≡ None = rw (same_text l m (sym named)) allowed.1 in
    let one = received-one l x s.reading (filter (is_of l) s.jobs) (filter-idem (is_of l) s.jobs) few (resting-only l s good) received.1 known in
    let same : l ≡ m = same_text l m (sym named) in
    rw (start_of l m named x, finish_of l m named x, ← same) one

other_start : (l : Label) (e : Event) → concerns l e ≡ false → is_start_of l e ≡ false
other_start l (OfJob m (Answered (Spawned run pid))) other = other
other_start l _ other = refl

other_finish : (l : Label) (e : Event) → concerns l e ≡ false → is_finish_of l e ≡ false
other_finish l (OfJob m (RunEnded run how)) other = other
other_finish l _ other = refl

-- ---- the step

step-balance : (l : Label) (s : State) (e : Event) → IsGood s → IsFew s →
    ones (is_taken_as (is_start_of l) s e) + length (living_in s l) ≡ ones (is_taken_as (is_finish_of l) s e) + length (living_in (step s e) l)
step-balance l s e good few = go (refusal_in s e) refl (concerns l e) refl where
  go : (o : Option Refusal) → refusal_in s e ≡ o → (b : Bool) → concerns l e ≡ b →
      ones (not (is_some o) && is_start_of l e) + length (living_in s l) ≡ ones (not (is_some o) && is_finish_of l e) + length (living_in (step_by o s e) l)
  go (Some r) is b named = refl
  go None is false other =
      let same : length (living_in (step_by None s e) l) ≡ length (living_in s l) =
      (λ i. length (alive (only l (step_by (sym is i) s e)).jobs)) ∙ ap (λ (t : State). length (alive t.jobs)) (step-other l s e good other) in
      rw (other_start l e other, other_finish l e other, same) refl
  go None is true named =
      let ordered_alike : only l (with_orders (taken s e)) ≡ with_orders (taken (only l s) e) = sym (with_orders-only l (taken s e)) ∙ ap with_orders (sym (taken-only l s e named is)) in
      let same : length (living_in (step_by None s e) l) ≡ length (alive (taken (only l s) e).jobs) =
      ap (λ (t : State). length (alive t.jobs)) ordered_alike ∙ ap (λ (runs : List Child). length runs) (alive-stays (taken (only l s) e).jobs) in
      rw same (balance l s e good (few l) named is)

pub census : (l : Label) (es : List Event) (s : State) → IsGood s → IsFew s →
    count_taken (is_start_of l) es s + length (living_in s l) ≡ count_taken (is_finish_of l) es s + length (living_in (run es s) l)
census l [] s good few = refl
census l (e ∷ es) s good few =
    let first_one = step-balance l s e good few in
    let rest = census l es (step s e) (good-step s e good) (few-step s e few) in
    omega (arith, first_one, rest)
