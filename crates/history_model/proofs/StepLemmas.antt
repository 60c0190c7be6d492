-- What each step of the machine keeps: each past is lawful, and after the step none has an order due.
use Rattle.std.proofs.Common.{◌≡◌, ℕ, ◌≤◌, Bool, true, false, not, ◌||◌, ◌&&◌, cond, Option, Some, None, List, [], ◌∷◌, refl, ◌∙◌, map, is_some}
use Rattle.std.specs.Prelude.{Ok, Err}
use Rattle.std.specs.List.{filter, filter_map, cons_option, AllByRecursion}
use Rattle.history_model.specs.declared.Reading.{Reading}
use Rattle.history_model.specs.declared.Obs.{Obs}
use Rattle.history_model.specs.declared.Act.{Act}
use Rattle.history_model.specs.declared.Act.TheVariants.{Spawn, Term, Kill, Close, Gone}
use Rattle.history_model.specs.declared.Ask.TheVariants.{Start, Stop, Unload, Shutdown, Kickstart}
use Rattle.history_model.specs.declared.Refusal.{Refusal}
use Rattle.history_model.specs.declared.Refusal.TheVariants.{BadRequest, BadDefinition, ClockRefused, ShuttingDown}
use Rattle.history_model.specs.declared.TheConstants.{MAX_UP}
use Rattle.history_model.specs.Items.{Item, Loaded, Read, Saw, Asked, Came, Left, Ordered, Answered, RunEnded, WaitRefused, History}
use Rattle.history_model.specs.Search.{or_else, first}
use Rattle.history_model.specs.Clock.{now, definition_of}
use Rattle.history_model.specs.Runs.{is_gone, is_removed, child}
use Rattle.history_model.specs.Due.{due}
use Rattle.history_model.specs.Refusals.{refusal_of, is_clock_refused, IsLawful, IsBehindLoad}
use Rattle.history_model.specs.FactsOfPast.{ordered}
use Rattle.history_model.specs.Calendar.{calendar_fires}
use Rattle.history_model.specs.Labels.{Label, is_label, is_before}
use Rattle.history_model.specs.Machine.{State, Job, Header, Event, Unreadable, Load, UnloadJob, Set, ListJobs, PrintJob, ShutDown, Tick, Observation, OfJob, is_of, past_in, past_of, opened}
use Rattle.history_model.specs.Acceptance.{refused_if, is_received, refusal_at, refusal_in, refusal_stored}
use Rattle.history_model.specs.Step.{with_item, received, received_one, with_job, lists, observation_of, taken, stays, step_by, step, run}
use Rattle.history_model.proofs.BooleanLemmas.{and-both, and-false, not-false}
use Rattle.history_model.proofs.LawfulLemmas.{due-Term, due-Kill, due-rest}
use Rattle.history_model.proofs.ClockLemmas.{Read-later}
use Rattle.history_model.proofs.KeepsLemmas.{is_event, event_follows}

-- ---- refusals

pub refused-None : (b : Bool) (r : Refusal) (rest : Option Refusal) → refused_if b r rest ≡ None → (b ≡ false) × (rest ≡ None)
refused-None true r rest e = cc
refused-None false r rest e = (refl, e)

pub or_else-None : (o rest : Option Refusal) → or_else o rest ≡ None → (o ≡ None) × (rest ≡ None)
or_else-None None rest e = (refl, e)
or_else-None (Some r) rest e = cc

-- ---- lists of jobs

pub all-implied : {X : Type 0} (P Q : X → Type 0) → ((x : X) → P x → Q x) → (xs : List X) → AllByRecursion P xs → AllByRecursion Q xs
all-implied P Q implies [] all = tt
all-implied P Q implies (x ∷ xs) all = (implies x all.0, all-implied P Q implies xs all.1)

pub all-map : {X : Type 0} (P Q : X → Type 0) (f : X → X) → ((x : X) → P x → Q (f x)) → (xs : List X) → AllByRecursion P xs → AllByRecursion Q (map f xs)
all-map P Q f implies [] all = tt
all-map P Q f implies (x ∷ xs) all = (implies x all.0, all-map P Q f implies xs all.1)

pub all-with_job : (P : Job → Type 0) (new : Job) → P new → (jobs : List Job) → AllByRecursion P jobs → AllByRecursion P (with_job new jobs)
all-with_job P new holds [] all = (holds, tt)
all-with_job P new holds (job ∷ jobs) all = go (all-with_job P new holds jobs all.1) (is_before new.label job.label) where
  go : AllByRecursion P (with_job new jobs) → (v : Bool) → AllByRecursion P (cond v (new ∷ job ∷ jobs) (job ∷ with_job new jobs))
  go rest true = (holds, all)
  go rest false = (all.0, rest)

-- ---- what holds of each job

-- its past is lawful, and is at this clock reading
pub record Stands (at : Reading) (job : Job) : Type 0 where
  pub lawful : IsLawful job.past
  pub loaded : IsBehindLoad job.past
  pub present : now job.past ≡ at

-- and it has nothing to give
pub record Rests (at : Reading) (job : Job) : Type 0 where
  pub stands : Stands at job
  pub idle : due job.past ≡ None
  pub staying : is_gone job.past ≡ false

is_received-event : (x : Item) → is_received x ≡ true → is_event x ≡ true
is_received-event (Asked Start) e = refl
is_received-event (Asked Stop) e = refl
is_received-event (Asked (Kickstart kills_first)) e = refl
is_received-event (Came conn) e = refl
is_received-event (Left conn) e = refl
is_received-event (Answered answer) e = refl
is_received-event (RunEnded run how) e = refl
is_received-event (WaitRefused run) e = refl
is_received-event _ e = cc

is_received-now : (x : Item) (t : History) → is_received x ≡ true → now (x ∷ t) ≡ now t
is_received-now (Asked ask) t e = refl
is_received-now (Came conn) t e = refl
is_received-now (Left conn) t e = refl
is_received-now (Answered answer) t e = refl
is_received-now (RunEnded run how) t e = refl
is_received-now (WaitRefused run) t e = refl
is_received-now _ t e = cc

-- an accepted item of the job's own goes on
pub stands-received : (at : Reading) (x : Item) (job : Job) → is_received x ≡ true → refusal_of x job.past ≡ None → Stands at job → Stands at (with_item job (Some x))
stands-received at x job received accepted stands = record {
  lawful = (event_follows x job.past (is_received-event x received) stands.loaded accepted, stands.lawful);
  loaded = tt;
  present = is_received-now x job.past received ∙ stands.present;
}

stands-Unload : (at : Reading) (job : Job) → refusal_of (Asked Unload) job.past ≡ None → Stands at job → Stands at (with_item job (Some (Asked Unload)))
stands-Unload at job accepted stands = record { lawful = ((stands.loaded, accepted), stands.lawful); loaded = tt; present = stands.present }

stands-Shutdown : (at : Reading) (job : Job) → Stands at job → Stands at (with_item job (Some (Asked Shutdown)))
stands-Shutdown at job stands = record { lawful = ((stands.loaded, refl), stands.lawful); loaded = tt; present = stands.present }

stands-Saw : (at : Reading) (path : List ℕ) (obs : Obs) (job : Job) → Stands at job → Stands at (with_item job (observation_of path (Saw path obs) job))
stands-Saw at path obs job stands = go (lists (definition_of job.past) path) where
  go : (v : Bool) → Stands at (with_item job (cond v (Some (Saw path obs)) None))
  go true = record { lawful = ((stands.loaded, refl), stands.lawful); loaded = tt; present = stands.present }
  go false = stands

stands-Read : (before at : Reading) (calendar : Bool) (job : Job) → is_clock_refused before at ≡ false → Stands before job → Stands at (with_item job (Some (Read at calendar)))
stands-Read before at calendar job accepted stands = record {
  lawful = ((stands.loaded, rw (stands.present, accepted) refl), stands.lawful);
  loaded = tt;
  present = refl;
}

-- the accepted item finds its job
pub stands-received_one : (at : Reading) (label : Label) (x : Item) → ((job : Job) → refusal_of x job.past ≡ None → Stands at job → Stands at (with_item job (Some x))) →
    (jobs : List Job) → refusal_at (past_in (first (filter (is_of label) jobs))) x ≡ None → AllByRecursion (Stands at) jobs → AllByRecursion (Stands at) (received_one label x jobs)
stands-received_one at label x goes_on [] accepted all = tt
stands-received_one at label x goes_on (job ∷ jobs) accepted all =
    go (λ after. stands-received_one at label x goes_on jobs after all.1) (is_of label job) accepted where
      go : (refusal_at (past_in (first (filter (is_of label) jobs))) x ≡ None → AllByRecursion (Stands at) (received_one label x jobs)) →
          (v : Bool) → refusal_at (past_in (first (cond v (job ∷ filter (is_of label) jobs) (filter (is_of label) jobs)))) x ≡ None →
          AllByRecursion (Stands at) (cond v (with_item job (Some x) ∷ jobs) (job ∷ received_one label x jobs))
      go rest true after = (goes_on job after all.0, all.1)
      go rest false after = (all.0, rest after)

-- ---- what a job gives

spawning : (removed alive : Bool) → (removed && not (alive || true)) ≡ false
spawning true true = refl
spawning true false = refl
spawning false alive = refl

-- a job that gives its order awaits the answer, and does not leave
rests-ordered : (at : Reading) (job : Job) → Stands at job → is_gone job.past ≡ false → Rests at (record job { past = ordered (due job.past) job.past })
rests-ordered at job stands staying = go (due job.past) refl where
  t : History
  t = job.past

  stays_there : (act : Act) → due t ≡ Some act → is_gone (Ordered act ∷ t) ≡ false
  stays_there (Spawn k conn) e = spawning (is_removed t) (is_some (child t))
  stays_there (Term k) e = let fact = due-Term t k e in rw fact.present (and-false (is_removed t))
  stays_there (Kill k) e = let fact = due-Kill t k e in rw fact.present (and-false (is_removed t))
  stays_there (Close conn) e = absurd (due-rest t (Close conn) e (λ r c h. cc) (λ r h. cc) (λ r h. cc))
  stays_there Gone e = absurd (due-rest t Gone e (λ r c h. cc) (λ r h. cc) (λ r h. cc))

  go : (o : Option Act) → due job.past ≡ o → Rests at (record job { past = ordered o job.past })
  go None e = record { stands = stands; idle = e; staying = staying }
  go (Some act) e = record {
    stands = record { lawful = ((stands.loaded, e), stands.lawful); loaded = tt; present = stands.present };
    idle = refl;
    staying = stays_there act e;
  }

pub rests-with_orders : (at : Reading) (jobs : List Job) → AllByRecursion (Stands at) jobs → AllByRecursion (Rests at) (filter_map stays jobs)
rests-with_orders at [] all = tt
rests-with_orders at (job ∷ jobs) all = go (rests-with_orders at jobs all.1) (is_gone job.past) refl where
  go : AllByRecursion (Rests at) (filter_map stays jobs) → (v : Bool) → is_gone job.past ≡ v →
      AllByRecursion (Rests at) (cons_option (cond v None (Some (record job { past = ordered (due job.past) job.past }))) (filter_map stays jobs))
  go rest true e = rest
  go rest false e = (rests-ordered at job all.0 e, rest)

-- ---- the step

pub record IsGood (s : State) : Type 0 where
  pub range : s.reading.up ≤ MAX_UP
  pub rests : AllByRecursion (Rests s.reading) s.jobs

pub record IsStanding (s : State) : Type 0 where
  pub range : s.reading.up ≤ MAX_UP
  pub stands : AllByRecursion (Stands s.reading) s.jobs

pub standing : (s : State) → IsGood s → IsStanding s
standing s good = record { range = good.range; stands = all-implied (Rests s.reading) (Stands s.reading) (λ job r. r.stands) s.jobs good.rests }

pub stands-taken : (s : State) (e : Event) → refusal_in s e ≡ None → IsStanding s → IsStanding (taken s e)
stands-taken s Unreadable accepted all = cc
stands-taken s (Load (Err fault) writes_setting force bind store) accepted all = absurd (faulty s.is_shutting_down accepted) where
  faulty : (b : Bool) → refused_if b ShuttingDown (Some (BadDefinition fault.reason fault.key)) ≡ None → ⊥
  faulty true e = cc
  faulty false e = cc
stands-taken s (Load (Ok given) writes_setting force bind store) accepted all = record {
  range = all.range;
  stands = all-with_job (Stands s.reading) (record { label = given.label; past = Loaded given.definition s.reading ∷ [] })
      (record { lawful = ((refl, all.range), tt); loaded = tt; present = refl }) s.jobs all.stands;
}
stands-taken s (UnloadJob label writes_setting store) accepted all =
    let named = refused-None (not (is_label label)) BadRequest (or_else (refusal_at (past_of s label) (Asked Unload)) (refusal_stored writes_setting store)) accepted in
    let known = or_else-None (refusal_at (past_of s label) (Asked Unload)) (refusal_stored writes_setting store) named.1 in
    record { range = all.range; stands = stands-received_one s.reading label (Asked Unload) (stands-Unload s.reading) s.jobs known.0 all.stands }
stands-taken s (Set label disabled store) accepted all = record { range = all.range; stands = all.stands }
stands-taken s ListJobs accepted all = all
stands-taken s (PrintJob label) accepted all = all
stands-taken s ShutDown accepted all = record {
  range = all.range;
  stands = all-map (Stands s.reading) (Stands s.reading) (λ job. with_item job (Some (Asked Shutdown))) (stands-Shutdown s.reading) s.jobs all.stands;
}
stands-taken s (Tick at) accepted all =
    let moves = refused-None (is_clock_refused s.reading at) ClockRefused None accepted in
    record {
      range = (Read-later s.reading at moves.0).1;
      stands = all-map (Stands s.reading) (Stands at)
          (λ job. with_item job (Some (Read at (calendar_fires s.zone (definition_of job.past).calendar s.reading.wall at.wall))))
          (λ job stands. stands-Read s.reading at (calendar_fires s.zone (definition_of job.past).calendar s.reading.wall at.wall) job moves.0 stands) s.jobs all.stands;
    }
stands-taken s (Observation path obs) accepted all = record {
  range = all.range;
  stands = all-map (Stands s.reading) (Stands s.reading) (λ job. with_item job (observation_of path (Saw path obs) job)) (stands-Saw s.reading path obs) s.jobs all.stands;
}
stands-taken s (OfJob label item) accepted all =
    let named = refused-None (not (is_label label && is_received item)) BadRequest (refusal_at (past_of s label) item) accepted in
    let allowed = and-both (is_label label) (is_received item) (not-false (is_label label && is_received item) named.0) in
    record { range = all.range; stands = stands-received_one s.reading label item (λ job fits stands. stands-received s.reading item job allowed.1 fits stands) s.jobs named.1 all.stands }

pub good-step : (s : State) (e : Event) → IsGood s → IsGood (step s e)
good-step s e good = go (refusal_in s e) refl where
  go : (o : Option Refusal) → refusal_in s e ≡ o → IsGood (step_by o s e)
  go (Some refusal) is = good
  go None is =
      let after = stands-taken s e is (standing s good) in
      record { range = after.range; rests = rests-with_orders (taken s e).reading (taken s e).jobs after.stands }

pub good-run : (es : List Event) (s : State) → IsGood s → IsGood (run es s)
good-run [] s good = good
good-run (e ∷ es) s good = good-run es (step s e) (good-step s e good)

pub good-opened : (h : Header) → h.reading.up ≤ MAX_UP → IsGood (opened h)
good-opened h range = record { range = range; rests = tt }

-- each past of a run is lawful, and rests
pub resting : (h : Header) (es : List Event) → h.reading.up ≤ MAX_UP → AllByRecursion (Rests (run es (opened h)).reading) (run es (opened h)).jobs
resting h es range = (good-run es (opened h) (good-opened h range)).rests
