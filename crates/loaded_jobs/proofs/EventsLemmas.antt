-- What the events hand on to the machine's step.
use Rattle.std.proofs.Common.{◌≡◌, ℕ, Bool, true, false, not, ◌||◌, List, [], ◌∷◌, map, Option, Some, None, refl, sym, ap, ◌∙◌, subst, Bor}
use Rattle.std.specs.Prelude.{if◌then◌else◌, ◌&&◌}
use Rattle.std.specs.List.{filter, filter_map, flat_map, list_any}
use Rattle.history_model.specs.declared.Reading.{Reading as Moment}
use Rattle.history_model.specs.declared.Obs.{Obs}
use Rattle.history_model.specs.declared.CivilMinute.{CivilMinute}
use Rattle.history_model.specs.declared.Entry.{Entry}
use Rattle.history_model.specs.declared.Refusal.{Refusal}
use Rattle.history_model.specs.declared.Refusal.TheVariants.{ClockRefused}
use Rattle.history_model.specs.Acceptance.{refused_if}
use Rattle.history_model.specs.Items.{Saw, Read, Asked, History}
use Rattle.history_model.specs.declared.Ask.TheVariants as asks
use Rattle.history_model.specs.declared.event.JobItem.{JobItem}
use Rattle.history_model.specs.declared.event.JobItem.TheVariants as happens
use Rattle.history_model.specs.JobItems.{item_of}
use Rattle.history_model.specs.Search.{first, or_else}
use Rattle.history_model.specs.Clock.{definition_of, reading_in}
use Rattle.history_model.specs.Refusals.{is_clock_refused, unless}
use Rattle.history_model.specs.Calendar.{Zone, crossed, matches, calendar_fires}
use Rattle.history_model.specs.Machine.{State, Job, sets}
use Rattle.history_model.specs.Step.{stays, orders_of, lists, observation_of}
use Rattle.history_model.specs.Definitions.{definition}
use Rattle.calendar_due.specs.ZoneRules.{minute_at}
use Rattle.loaded_jobs.specs.Tables.{Row}
use Rattle.loaded_jobs.specs.StandsFor.{KeepsJobs, KeepsSettings, KeepsState, labelled}
use Rattle.loaded_jobs.specs.JobSlots.{row, name, rows, AllStay}
use Rattle.loaded_jobs.specs.Sound.{seen_table}
use Rattle.loaded_jobs.specs.Alike.{IsAlike}
use Rattle.loaded_jobs.specs.Minutes.{has_calendars, some_calendar}
use Rattle.history_model.specs.News.{is_some_entry}
use Rattle.loaded_jobs.specs.AffectedJobs.{item_for}
use Rattle.loaded_jobs.specs.Receiving.{refusal_if, AreFor, IsAccepted}
use Rattle.loaded_jobs.specs.declared.jobs.Jobs.{Jobs}
use Rattle.loaded_jobs.specs.declared.job_slot.AffectedJobs.{AffectedJobs}
use Rattle.loaded_jobs.specs.declared.job_slot.AffectedJobs.TheVariants as affected
use Rattle.loaded_jobs.proofs.ListLemmas.{any-map}
use Rattle.loaded_jobs.proofs.PlacesLemmas.{rows-all}
use Rattle.loaded_jobs.specs.declared.job_slot.JobSlot.{JobSlot}
use Rattle.loaded_jobs.specs.TableOutcomes.{IsOrderedFrom}
use Rattle.history_model.proofs.BooleanLemmas.{or-true}

pub alike-both : {a b c : Jobs} → IsAlike a b → IsAlike b c → IsAlike a c
alike-both {a} {b} {c} p q = record {
  reading = q.reading ∙ p.reading;
  zone = q.zone ∙ p.zone;
  settings = q.settings ∙ p.settings;
  shutdown = q.shutdown ∙ p.shutdown;
}

pub alike-state : (old new : Jobs) (s : State) → IsAlike old new → KeepsState (seen_table old) s → rows new.job_slots.items ≡ rows old.job_slots.items → KeepsState (seen_table new) s
alike-state old new s is keeps same = record {
  reading = is.reading ∙ keeps.reading;
  zone = ap minute_at is.zone ∙ keeps.zone;
  settings = λ label. ap (λ held. first (filter (sets label) held.items)) is.settings ∙ keeps.settings label;
  shutdown = is.shutdown ∙ keeps.shutdown;
  jobs = subst (λ rs. KeepsJobs s.reading rs s.jobs) (sym same) keeps.jobs;
  rests = keeps.rests;
}

-- the jobs as the table's own reading sees them
pub own-jobs : (t : Jobs) (s : State) → KeepsState (seen_table t) s → KeepsJobs t.reading (rows t.job_slots.items) s.jobs
own-jobs t s keeps = subst (λ at. KeepsJobs at (rows t.job_slots.items) s.jobs) (sym keeps.reading) keeps.jobs

-- what an event hands on, but for the jobs
pub record IsHead (t : Jobs) (s : State) : Type 0 where
  pub reading : t.reading ≡ s.reading
  pub zone : minute_at t.zone ≡ s.zone
  pub settings : KeepsSettings t.settings.items s.settings
  pub shutdown : t.is_shutting_down ≡ s.is_shutting_down

pub head : (old new : Jobs) (s : State) → IsAlike old new → KeepsState (seen_table old) s → IsHead new s
head old new s is keeps = record {
  reading = is.reading ∙ keeps.reading;
  zone = ap minute_at is.zone ∙ keeps.zone;
  settings = λ label. ap (λ held. first (filter (sets label) held.items)) is.settings ∙ keeps.settings label;
  shutdown = is.shutdown ∙ keeps.shutdown;
}

-- the table once the jobs are visited, from the state with their orders
pub with_orders-so : (begun new : Jobs) (t : State) → IsAlike begun new → IsHead begun t →
    KeepsJobs begun.reading (rows new.job_slots.items) (filter_map stays t.jobs) → labelled (map name new.job_slots.items) new.orders.items ≡ flat_map orders_of t.jobs → IsOrderedFrom (seen_table new) t
with_orders-so begun new t is same kept orders = record {
  reading = is.reading ∙ same.reading;
  zone = ap minute_at is.zone ∙ same.zone;
  settings = λ label. ap (λ held. first (filter (sets label) held.items)) is.settings ∙ same.settings label;
  shutdown = is.shutdown ∙ same.shutdown;
  jobs = subst (λ at. KeepsJobs at (rows new.job_slots.items) (filter_map stays t.jobs)) same.reading kept;
  orders = orders;
}

-- ---- touches

observation-for : (at : Moment) (path : List ℕ) (obs : Obs) (affected : AffectedJobs) (rs : List Row) (jobs : List Job) →
    ((row : Row) → item_for affected row.described ≡ (if lists (definition row.described) path then Some (Saw path obs) else None)) →
    KeepsJobs at rs jobs → AreFor (item_for affected) (observation_of path (Saw path obs)) rs jobs
observation-for at path obs affected [] jobs is keeps = tt
observation-for at path obs affected (row ∷ rs) [] is keeps = tt
observation-for at path obs affected (row ∷ rs) (job ∷ jobs) is keeps =
    (is row ∙ ap (λ d. if lists d path then Some (Saw path obs) else None) keeps.0.definition, observation-for at path obs affected rs jobs is keeps.1)

pub observations : (at : Moment) (path : Bor (List ℕ)) (obs : Obs) (rs : List Row) (jobs : List Job) → KeepsJobs at rs jobs →
    AreFor (item_for (affected.Observation path obs)) (observation_of path.now (Saw path.now obs)) rs jobs
observations at path obs rs jobs keeps = observation-for at path.now obs (affected.Observation path obs) rs jobs (λ row. refl) keeps

pub observations-fine : (at : Moment) (path : List ℕ) (obs : Obs) → IsAccepted at (observation_of path (Saw path obs))
observations-fine at path obs = λ job present. go (lists (definition_of job.past) path) job.past
  where
    go : (b : Bool) (past : History) → refusal_if (if b then Some (Saw path obs) else None) past ≡ None
    go true past = refl
    go false past = refl

pub readings-fine : (before at : Moment) (calendar : Job → Bool) → is_clock_refused before at ≡ false → IsAccepted before (λ job. Some (Read at (calendar job)))
readings-fine before at calendar accepted =
    λ job present. ap (λ b. unless (not b) ClockRefused) (ap (λ moment. is_clock_refused moment at) (sym present) ∙ accepted)

any-none : {X : Type 0} (xs : List X) → list_any (λ x. false) xs ≡ false
any-none [] = refl
any-none (x ∷ xs) = any-none xs

fires-same : (zone : Zone) (calendar : List Entry) (minutes : List CivilMinute) (previous wall : ℕ) →
    (is_some_entry calendar ≡ true → minutes ≡ map zone (crossed previous wall)) →
    list_any (λ minute. list_any (λ entry. matches entry minute) calendar) minutes ≡ calendar_fires zone calendar previous wall
fires-same zone [] minutes previous wall is = any-none minutes ∙ sym (any-none (crossed previous wall))
fires-same zone (entry ∷ entries) minutes previous wall is =
    ap (list_any (λ minute. list_any (λ e. matches e minute) (entry ∷ entries))) (is refl) ∙ any-map (λ minute. list_any (λ e. matches e minute) (entry ∷ entries)) zone (crossed previous wall)

reading-for : (zone : Zone) (before at : Moment) (affected : AffectedJobs) (minutes : List CivilMinute) (rs : List Row) (jobs : List Job) →
    ((row : Row) → item_for affected row.described ≡ Some (Read at (list_any (λ minute. list_any (λ entry. matches entry minute) row.described.calendar) minutes))) →
    (has_calendars rs ≡ true → minutes ≡ map zone (crossed before.wall at.wall)) → KeepsJobs before rs jobs →
    AreFor (item_for affected) (λ job. Some (Read at (calendar_fires zone (definition_of job.past).calendar before.wall at.wall))) rs jobs
reading-for zone before at affected minutes [] jobs is crosses keeps = tt
reading-for zone before at affected minutes (row ∷ rs) [] is crosses keeps = tt
reading-for zone before at affected minutes (row ∷ rs) (job ∷ jobs) is crosses keeps =
    let fires = fires-same zone row.described.calendar minutes before.wall at.wall (λ some. crosses (ap (λ b. b || has_calendars rs) some)) in (
      is row ∙ ap (λ b. Some (Read at b)) (fires ∙ ap (λ d. calendar_fires zone d.calendar before.wall at.wall) keeps.0.definition),
      reading-for zone before at affected minutes rs jobs is (λ some. crosses (ap (λ b. is_some_entry row.described.calendar || b) some ∙ or-true (is_some_entry row.described.calendar))) keeps.1,
    )

pub readings : (zone : Zone) (before at : Moment) (minutes : Bor (List CivilMinute)) (rs : List Row) (jobs : List Job) →
    (has_calendars rs ≡ true → minutes.now ≡ map zone (crossed before.wall at.wall)) → KeepsJobs before rs jobs →
    AreFor (item_for (affected.Reading at minutes)) (λ job. Some (Read at (calendar_fires zone (definition_of job.past).calendar before.wall at.wall))) rs jobs
readings zone before at minutes rs jobs crosses keeps = reading-for zone before at (affected.Reading at minutes) minutes.now rs jobs (λ row. refl) crosses keeps

pub shutdowns : (rs : List Row) (jobs : List Job) → AreFor (item_for affected.Shutdown) (λ job. Some (Asked asks.Shutdown)) rs jobs
shutdowns [] jobs = tt
shutdowns (row ∷ rs) [] = tt
shutdowns (row ∷ rs) (job ∷ jobs) = (refl, shutdowns rs jobs)

-- ---- an event to one job

-- what happens to a job is no clock reading
pub silent : (item : JobItem) → reading_in (item_of item) ≡ None
silent (happens.Asked ask) = refl
silent (happens.Came conn) = refl
silent (happens.Left conn) = refl
silent (happens.Answered answer) = refl
silent (happens.Ended run how) = refl
silent (happens.WaitRefused run) = refl

pub past-refused : (a b : Bool) (r : Refusal) (rest : Option Refusal) → a ≡ true → b ≡ true → refused_if (not (a && b)) r rest ≡ rest
past-refused a b r rest ea eb = λ i. refused_if (not (ea i && eb i)) r rest

-- no setting is written, so the store is not asked
or-None : (o : Option Refusal) → or_else o None ≡ o
or-None None = refl
or-None (Some r) = refl

pub unstored : (a : Bool) (r : Refusal) (rest : Option Refusal) → a ≡ true → refused_if (not a) r (or_else rest None) ≡ rest
unstored a r rest is = ap (λ b. refused_if (not b) r (or_else rest None)) is ∙ or-None rest

-- the entries have calendar entries if their names do
pub calendars-names : (es : List JobSlot) → list_any (λ e. is_some_entry e.def.calendar) es ≡ some_calendar (map name es)
calendars-names es = sym (any-map (λ n. is_some_entry n.described.calendar) name es)

-- the rows of a table whose jobs all stay have calendar entries if its entries do
pub calendars-rows : (es : List JobSlot) → AllStay es → has_calendars (rows es) ≡ list_any (λ e. is_some_entry e.def.calendar) es
calendars-rows es stay = ap has_calendars (rows-all es stay) ∙ any-map (λ r. is_some_entry r.described.calendar) row es
