-- The least moment in the index is that of the machine's jobs, and calendars by rows are those of the jobs.
use Rattle.std.proofs.Common.{◌≡◌, inl, inr, ℕ, zero, suc, ◌≤◌, Bool, true, false, not, ◌&&◌, ◌||◌, cond, List, [], ◌∷◌, map, Option, Some, None, refl, sym, ap, ◌∙◌, subst, arith}
use Rattle.std.specs.Prelude.{slice_get}
use Rattle.std.specs.List.{list_any, AllByRecursion}
use Rattle.std.specs.Option.{ForSome}
use Rattle.timer_heap.specs.Timers.{Timers, moment_in, IsNoLater, IsLeast}
use Rattle.history_model.specs.declared.Reading.{Reading}
use Rattle.history_model.specs.Moments.{next_moment}
use Rattle.history_model.specs.NextMomentByFacts.{next_by}
use Rattle.history_model.specs.Machine.{Job}
use Rattle.history_model.proofs.ComingLemmas.{next-by}
use Rattle.history_model.proofs.BooleanLemmas.{or-second}
use Rattle.loaded_jobs.specs.Tables.{Row}
use Rattle.loaded_jobs.specs.StandsFor.{KeepsJob, KeepsJobs}
use Rattle.loaded_jobs.specs.JobSlots.{row, rows, name}
use Rattle.loaded_jobs.specs.Index.{AreTimed, AreAlone, moment_for}
use Rattle.loaded_jobs.specs.Minutes.{has_calendars}
use Rattle.history_model.specs.News.{is_some_entry, have_calendars}
use Rattle.loaded_jobs.specs.NextMoments.{is_moment, IsNextUp}
use Rattle.loaded_jobs.specs.declared.job_slot.JobSlot.{JobSlot}
use Rattle.loaded_jobs.proofs.AdvanceLemmas.{holder}
use Rattle.history_model.proofs.LawfulLemmas.{eqb-self}

-- ---- the moments of jobs

known : (at : Reading) (r : Row) (job : Job) → KeepsJob at r job → next_moment job.past ≡ next_by r.facts at.up
known at r job keeps = next-by job.past keeps.keeps.lawful ∙ (λ i. next_by (sym keeps.keeps.same i) (sym keeps.present i).up)

-- what holds of each moment in the index holds of each job's next moment
each-moment : (P : Option ℕ → Type 0) (at : Reading) (timers : Timers) (es : List JobSlot) (jobs : List Job) → AreTimed timers at.up es → ((number : ℕ) → P (moment_in timers number)) →
    KeepsJobs at (rows es) jobs → AllByRecursion (λ job. P (next_moment job.past)) jobs
each-moment P at timers [] [] timed each keeps = tt
each-moment P at timers [] (job ∷ jobs) timed each keeps = absurd keeps
each-moment P at timers (e ∷ es) jobs timed each keeps =
    go e.has_gone refl jobs keeps (λ others. each-moment P at timers es others (λ k x there. timed (suc k) x there) each)
  where
    go : (b : Bool) → e.has_gone ≡ b → (all : List Job) → KeepsJobs at (cond b (rows es) (row e ∷ rows es)) all →
        ((others : List Job) → KeepsJobs at (rows es) others → AllByRecursion (λ job. P (next_moment job.past)) others) → AllByRecursion (λ job. P (next_moment job.past)) all
    go true is all keeps later = later all keeps
    go false is [] keeps later = absurd keeps
    go false is (job ∷ others) keeps later =
        let own : moment_in timers e.number ≡ next_moment job.past =
        timed 0 e refl ∙ ap (λ b. cond b None (next_by e.core.facts at.up)) is ∙ sym (known at (row e) job keeps.0) in
        (subst P own (each e.number), later others keeps.1)

-- the moment of a job that is not gone is that of some job
some-moment : (at : Reading) (m : ℕ) (es : List JobSlot) (k : ℕ) (e : JobSlot) (jobs : List Job) → slice_get es k ≡ Some e → moment_for e at.up ≡ Some m → KeepsJobs at (rows es) jobs →
    list_any (λ job. is_moment m (next_moment job.past)) jobs ≡ true
some-moment at m [] zero e jobs there is keeps = cc
some-moment at m [] (suc k) e jobs there is keeps = cc
some-moment at m (x ∷ es) zero e jobs there is keeps = go x.has_gone refl jobs keeps
  where
    same : x ≡ e
    same = cc

    own : moment_for x at.up ≡ Some m
    own = ap (λ y. moment_for y at.up) same ∙ is

    go : (b : Bool) → x.has_gone ≡ b → (all : List Job) → KeepsJobs at (cond b (rows es) (row x ∷ rows es)) all → list_any (λ job. is_moment m (next_moment job.past)) all ≡ true
    go true going all keeps = let clash : None ≡ Some m = sym (ap (λ b. cond b None (next_by x.core.facts at.up)) going) ∙ own in absurd (cc clash)
    go false going [] keeps = absurd keeps
    go false going (job ∷ others) keeps =
        let found : next_moment job.past ≡ Some m = known at (row x) job keeps.0 ∙ sym (ap (λ b. cond b None (next_by x.core.facts at.up)) going) ∙ own in
        ap (λ o. is_moment m o || list_any (λ other. is_moment m (next_moment other.past)) others) found
        ∙ ap (λ b. b || list_any (λ other. is_moment m (next_moment other.past)) others) (eqb-self m)
some-moment at m (x ∷ es) (suc k) e jobs there is keeps = go x.has_gone jobs keeps (λ others. some-moment at m es k e others there is)
  where
    go : (b : Bool) (all : List Job) → KeepsJobs at (cond b (rows es) (row x ∷ rows es)) all →
        ((others : List Job) → KeepsJobs at (rows es) others → list_any (λ job. is_moment m (next_moment job.past)) others ≡ true) →
        list_any (λ job. is_moment m (next_moment job.past)) all ≡ true
    go true all keeps later = later all keeps
    go false [] keeps later = absurd keeps
    go false (job ∷ others) keeps later = or-second (is_moment m (next_moment job.past)) (list_any (λ other. is_moment m (next_moment other.past)) others) (later others keeps.1)

-- no job has a moment if the index has none
pub none-up : (at : Reading) (timers : Timers) (es : List JobSlot) (jobs : List Job) → AreTimed timers at.up es → IsLeast timers None → KeepsJobs at (rows es) jobs → IsNextUp jobs None
none-up at timers es jobs timed least keeps = each-moment (λ moment. moment ≡ None) at timers es jobs timed least keeps

-- the least moment in the index is the least of the jobs
pub least-up : (at : Reading) (timers : Timers) (es : List JobSlot) (jobs : List Job) (number m : ℕ) → AreTimed timers at.up es → AreAlone timers (map name es) →
    IsLeast timers (Some (number, m)) → KeepsJobs at (rows es) jobs → IsNextUp jobs (Some m)
least-up at timers es jobs number m timed alone least keeps =
    let found = holder es number (alone number m least.0) in
    let own : moment_for found.1 at.up ≡ Some m = sym (timed found.0 found.1 found.2) ∙ ap (moment_in timers) found.3 ∙ least.0 in (
      some-moment at m es found.0 found.1 jobs found.2 own keeps,
      each-moment (λ moment. ForSome moment (λ n. m ≤ n)) at timers es jobs timed (λ k n there. no-less n k (least.1 k n there)) keeps,
    )
  where
    no-less : (n k : ℕ) → IsNoLater m number n k → m ≤ n
    no-less n k (inl before) = omega (arith, before)
    no-less n k (inr same) = let equal = same.0 in omega (arith, equal)

-- ---- calendars

pub calendars-rows : (es : List JobSlot) → list_any (λ e. not e.has_gone && is_some_entry e.def.calendar) es ≡ has_calendars (rows es)
calendars-rows [] = refl
calendars-rows (e ∷ es) = go e.has_gone (calendars-rows es)
  where
    go : (b : Bool) → list_any (λ e. not e.has_gone && is_some_entry e.def.calendar) es ≡ has_calendars (rows es) →
        ((not b && is_some_entry e.def.calendar) || list_any (λ e. not e.has_gone && is_some_entry e.def.calendar) es) ≡ has_calendars (cond b (rows es) (row e ∷ rows es))
    go true later = later
    go false later = ap (λ v. is_some_entry e.def.calendar || v) later

pub calendars-jobs : (at : Reading) (rs : List Row) (jobs : List Job) → KeepsJobs at rs jobs → has_calendars rs ≡ have_calendars jobs
calendars-jobs at [] [] keeps = refl
calendars-jobs at [] (job ∷ jobs) keeps = absurd keeps
calendars-jobs at (r ∷ rs) [] keeps = absurd keeps
calendars-jobs at (r ∷ rs) (job ∷ jobs) keeps = λ i. is_some_entry (keeps.0.definition i).calendar || calendars-jobs at rs jobs keeps.1 i
