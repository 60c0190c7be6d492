-- A start that is due at a clock reading is ordered at it.
use Rattle.std.proofs.Common.{◌≡◌, Bool, true, false, not, ◌||◌, ◌&&◌, cond, Option, Some, None, is_some, List, [], ◌∷◌, ◌++◌, map, refl, sym, ap, subst, ◌∙◌, ◌+◌, nat_le}
use Rattle.std.specs.Prelude.{unwrap_or}
use Rattle.std.specs.List.{filter, flat_map, AllByRecursion}
use Rattle.std.specs.Cmp.Lexicographic.{same_text}
use Rattle.history_model.specs.declared.Act.{Act}
use Rattle.history_model.specs.declared.Act.TheVariants.{Spawn, Close, Gone}
use Rattle.history_model.specs.declared.Reading.{Reading}
use Rattle.history_model.specs.declared.Refusal.TheVariants.{ClockRefused}
use Rattle.history_model.specs.declared.reasons.Reasons.{Reasons}
use Rattle.history_model.specs.Items.{Item, Read, History}
use Rattle.history_model.specs.Search.{first}
use Rattle.history_model.specs.Clock.{definition_of}
use Rattle.history_model.specs.Calendar.{calendar_fires}
use Rattle.history_model.specs.Kinds.{is_some_spawn}
use Rattle.history_model.specs.Runs.{runs, is_gone, is_removed, is_busy}
use Rattle.history_model.specs.Demands.{waiting, interval_fires}
use Rattle.history_model.specs.Due.{due, is_wanted}
use Rattle.history_model.specs.Labels.{Label}
use Rattle.history_model.specs.Machine.{State, Job, Tick, is_of, past_in}
use Rattle.history_model.specs.MachineLaws.{is_for}
use Rattle.history_model.specs.Moments.{HasPeriod}
use Rattle.history_model.specs.News.{may_change}
use Rattle.history_model.specs.NextMomentByFacts.{has_come}
use Rattle.history_model.specs.Reasons.{free_from, reasons_of, some_reason, some_want, needs_event, spawns_from}
use Rattle.history_model.specs.Refusals.{is_clock_refused}
use Rattle.history_model.specs.Acceptance.{refused_if, refusal_in}
use Rattle.history_model.specs.Step.{received, listed, acts_of, orders_of, outcome_by, outcome}
use Rattle.history_model.specs.LeftOut.{LeftOut}
use Rattle.loaded_jobs.specs.Tables.{Row, Table}
use Rattle.loaded_jobs.specs.StandsFor.{KeepsJobs, KeepsState, IsAtRest}
use Rattle.launcher.specs.HostTurns.{IsLed}
use Rattle.history_model.proofs.BooleanLemmas.{not-true}
use Rattle.history_model.proofs.ReasonsLemmas.{spawn-due, spawn-is, reading-due, moment-due}
use Rattle.history_model.proofs.StepLemmas.{Rests, IsGood}
use Rattle.history_model.proofs.OneLabelLemmas.{filter-received, filter-orders}
use Rattle.history_model.proofs.LeftOutLemmas.{at-one, left-silent}
use Rattle.round_laws.specs.DueStarts.{IsDueAt, start_of}

-- ---- one job

-- what the calendar adds takes nothing away
with-calendar : (n c i w f : Bool) → (not n && (false || i || w) && f) ≡ true → (not n && (c || i || w) && f) ≡ true
with-calendar true c i w f e = cc
with-calendar false false i w f e = e
with-calendar false true true w f e = e
with-calendar false true false true f e = e
with-calendar false true false false f e = cc

pub spawns-at : (t : History) (at : Reading) (calendar : Bool) → HasPeriod t → has_come (spawns_from t) at.up ≡ true → is_some_spawn (due (Read at calendar ∷ t)) ≡ true
spawns-at t at calendar period come =
    reading-due t at calendar
    ∙ with-calendar (needs_event (reasons_of t)) calendar (interval_fires t at) (is_wanted t) (nat_le (free_from t) at.up)
    (sym (reading-due t at false) ∙ moment-due t at period ∙ come)

first-of : (a b c d e f g : Bool) → (a || b || c || d || e || f || g) ≡ false → a ≡ false
first-of true b c d e f g none = cc
first-of false b c d e f g none = refl

not-removing : (r : Reasons) → some_reason r ≡ false → r.is_removing ≡ false
not-removing r none = first-of r.is_removing (is_some r.child) (is_some r.awaited) (not (some_want r.wants)) (is_some r.throttled_until) r.is_launch_spent r.are_runs_spent none

acts-by : (t : History) (gone : Bool) (o : Option Act) (act : Act) → gone ≡ false → o ≡ Some act → cond gone (map Close (waiting t) ++ Gone ∷ []) (listed o) ≡ act ∷ []
acts-by t true o act stays is = cc
acts-by t false o act stays is = ap listed is

-- a job whose start a clock reading makes due orders that, and nothing else
pub acts-due : (t : History) (at : Reading) (calendar : Bool) → is_some_spawn (due (Read at calendar ∷ t)) ≡ true →
    acts_of (Read at calendar ∷ t) ≡ Spawn (runs t + 1) (first (waiting t)) ∷ []
acts-due t at calendar is_due =
    let u = Read at calendar ∷ t in
    let none = not-true (some_reason (reasons_of u)) (sym (spawn-due u) ∙ is_due) in
    acts-by u (is_gone u) (due u) (Spawn (runs t + 1) (first (waiting t)))
    (ap (λ b. b && not (is_busy u)) (not-removing (reasons_of u) none)) (spawn-is u none)

-- ---- the machine

pub own-filter : (label : Label) (jobs : List Job) → AllByRecursion (λ (job : Job). is_of label job ≡ true) (filter (is_of label) jobs)
own-filter label [] = tt
own-filter label (job ∷ jobs) = go (is_of label job) refl (own-filter label jobs) where
  go : (b : Bool) → is_of label job ≡ b → AllByRecursion (λ (job : Job). is_of label job ≡ true) (filter (is_of label) jobs) →
      AllByRecursion (λ (job : Job). is_of label job ≡ true) (cond b (job ∷ filter (is_of label) jobs) (filter (is_of label) jobs))
  go true is rest = (is, rest)
  go false is rest = rest

-- a start that is due at a clock reading which the machine accepts is the first of the job's orders
pub order-at : (s : State) (label : Label) (t : History) (at : Reading) → IsDueAt s label t at → refusal_in s (Tick at) ≡ None →
    first (filter (is_for label) (outcome s (Tick at)).orders) ≡ Some (start_of label t)
order-at s label t at is_due accepted =
    ap (λ o. first (filter (is_for label) (outcome_by o s (Tick at)).orders)) accepted
    ∙ ap first (filter-orders label (received item s.jobs))
    ∙ ap (λ (js : List Job). first (flat_map orders_of js)) (filter-received label item s.jobs)
    ∙ go (filter (is_of label) s.jobs) (own-filter label s.jobs) is_due.loaded where
      item : Job → Option Item
      item job = Some (Read at (calendar_fires s.zone (definition_of job.past).calendar s.reading.wall at.wall))

      go : (js : List Job) → AllByRecursion (λ (job : Job). is_of label job ≡ true) js → past_in (first js) ≡ Some t →
          first (flat_map orders_of (received item js)) ≡ Some (start_of label t)
      go [] own there = cc
      go (job ∷ js) own there =
          let past : job.past ≡ t = ap (λ (o : Option History). unwrap_or o t) there in
          let named : label ≡ job.label = same_text label job.label (sym own.0) in
          let fires = calendar_fires s.zone (definition_of job.past).calendar s.reading.wall at.wall in
          let acts = acts-due job.past at fires (spawns-at job.past at fires (subst HasPeriod (sym past) is_due.period) (ap (λ (p : History). has_come (spawns_from p) at.up) past ∙ is_due.late_enough)) in
          ap (λ (acts : List Act). first (map (λ act. (job.label, act)) acts ++ flat_map orders_of (received item js))) acts
          ∙ (λ i. Some (sym named i, Spawn (runs (past i) + 1) (first (waiting (past i)))))

pub accepts : (s : State) (at : Reading) → is_clock_refused s.reading at ≡ false → refusal_in s (Tick at) ≡ None
accepts s at allowed = ap (λ b. refused_if b ClockRefused None) allowed

no-first : (order : Label × Act) → None ≡ Some order → ⊥
no-first order e = cc

-- such a clock reading is news
pub is-news : (s : State) → IsGood s → (label : Label) (t : History) (at : Reading) → IsDueAt s label t at → refusal_in s (Tick at) ≡ None → may_change s.jobs s.reading at ≡ true
is-news s good label t at is_due accepted = go (may_change s.jobs s.reading at) refl where
  go : (b : Bool) → may_change s.jobs s.reading at ≡ b → b ≡ true
  go true is = refl
  go false is =
      let silent : (outcome s (Tick at)).orders ≡ [] = (left-silent (LeftOut (Tick at) ∷ []) s.reading s.jobs s (at-one s good) (is, tt)).0 in
      absurd (no-first (start_of label t)
      (sym (ap (λ (os : List (Label × Act)). first (filter (is_for label) os)) silent) ∙ order-at s label t at is_due accepted))

-- ---- the table

rests-of : (at : Reading) (rows : List Row) (jobs : List Job) → KeepsJobs at rows jobs → AllByRecursion IsAtRest jobs → AllByRecursion (Rests at) jobs
rests-of at [] [] keeps rests = tt
rests-of at [] (job ∷ jobs) keeps rests = absurd keeps
rests-of at (row ∷ rows) [] keeps rests = tt
rests-of at (row ∷ rows) (job ∷ jobs) keeps rests = (
  record {
    stands = record { lawful = keeps.0.keeps.lawful; loaded = keeps.0.keeps.loaded; present = sym keeps.0.present };
    idle = rests.0.0;
    staying = rests.0.1;
  },
  rests-of at rows jobs keeps.1 rests.1,
)

pub good-of : (table : Table) (s : State) → KeepsState table s → IsLed s → IsGood s
good-of table s keeps led = record { range = led.orderly.range; rests = rests-of s.reading table.rows s.jobs keeps.jobs keeps.rests }
