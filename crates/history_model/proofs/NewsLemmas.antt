-- A minute is crossed if the number of whole minutes rises; and what a clock reading that changes nothing leaves as it is, of each job.
use Rattle.std.proofs.Common.{◌≡◌, ◌⊎◌, inl, inr, ℕ, zero, suc, ◌-◌, ◌/◌, ◌≤◌, Bool, true, false, ◌||◌, ◌&&◌, max, Option, Some, None, List, [], ◌∷◌, refl, sym, ap, subst, ◌∙◌, arith}
use Rattle.std.specs.Prelude.{nat_lt}
use Rattle.std.proofs.lemmas.Bool.Decides.{nat_tests}
use Rattle.std.specs.List.{list_any, AllByRecursion}
use Rattle.history_model.specs.declared.TheConstants.{CALENDAR_REACH}
use Rattle.history_model.specs.declared.Reading.{Reading}
use Rattle.history_model.specs.declared.Entry.{Entry}
use Rattle.history_model.specs.Clock.{definition_of, crosses_interval}
use Rattle.history_model.specs.Calendar.{Zone, matches, minutes_above, last_before, crossed, calendar_fires}
use Rattle.history_model.specs.Facts.{facts_of}
use Rattle.history_model.specs.LaterMoments.{IsLater}
use Rattle.history_model.specs.Moments.{next_moment}
use Rattle.history_model.specs.NextMomentByFacts.{next_by}
use Rattle.history_model.specs.Machine.{Job}
use Rattle.history_model.specs.News.{is_some_entry, have_calendars, is_moment_reached, is_any_minute_crossed, may_change}
use Rattle.history_model.proofs.BooleanLemmas.{or-false}
use Rattle.history_model.proofs.UntouchedLemmas.{none_at}
use Rattle.history_model.proofs.ComingLemmas.{next-by}
use Rattle.history_model.proofs.DueByFactsLemmas.{crosses-alike}
use Rattle.history_model.proofs.StepLemmas.{Stands}

-- ---- minutes

some-above : (k n : ℕ) → nat_lt 0 n ≡ list_any (λ minute. true) (minutes_above k n)
some-above k zero = refl
some-above k (suc n) = grind (arith, nat_tests)

pub minute-crossed : (before wall : ℕ) → nat_lt (before / 60) (wall / 60) ≡ is_any_minute_crossed before wall
minute-crossed before wall =
    let same : nat_lt (before / 60) (wall / 60) ≡ nat_lt 0 (wall / 60 - last_before before wall) = grind (arith, nat_tests) in
    same ∙ some-above (last_before before wall) (wall / 60 - last_before before wall)

-- a clock reading that crosses none and goes not back is in the same minute
same-minute : (before wall : ℕ) → is_any_minute_crossed before wall ≡ false → nat_lt wall before ≡ false → before / 60 ≡ wall / 60
same-minute before wall none forth =
    let below : nat_lt (before / 60) (wall / 60) ≡ false = minute-crossed before wall ∙ none in
    grind (arith, nat_tests, below, forth)

-- there is no entry, or both seconds are in one minute
abbrev pub AreOneMinute : List Entry → ℕ → ℕ → Type 0
AreOneMinute entries before at = (entries ≡ []) ⊎ (before / 60 ≡ at / 60)

-- from each of two seconds of one minute the same is crossed
pub fires-alike : (zone : Zone) (entries : List Entry) (before at wall : ℕ) → AreOneMinute entries before at → calendar_fires zone entries at wall ≡ calendar_fires zone entries before wall
fires-alike zone entries before at wall (inl none) =
    rw (none) (none_at zone (crossed at wall) [] refl ∙ sym (none_at zone (crossed before wall) [] refl))
fires-alike zone entries before at wall (inr same) =
    sym (ap (λ k. list_any (λ m. list_any (λ entry. matches entry (zone m)) entries) (minutes_above (max k ((wall - CALENDAR_REACH) / 60)) (wall / 60 - max k ((wall - CALENDAR_REACH) / 60)))) same)

-- and from the one to the other nothing
pub fires-none : (zone : Zone) (entries : List Entry) (before at : ℕ) → AreOneMinute entries before at → calendar_fires zone entries before at ≡ false
fires-none zone entries before at (inl none) = rw (none) (none_at zone (crossed before at) [] refl)
fires-none zone entries before at (inr same) =
    let left : at / 60 - last_before before at ≡ 0 = omega (arith, same) in
    ap (λ n. list_any (λ m. list_any (λ entry. matches entry (zone m)) entries) (minutes_above (last_before before at) n)) left

-- ---- a clock reading that changes nothing

-- for this job
pub record IsQuietFor (before at : Reading) (job : Job) : Type 0 where
  pub later : IsLater at.up (next_by (facts_of job.past) before.up)
  pub minutes : AreOneMinute (definition_of job.past).calendar before.wall at.wall

not_reached : (up : ℕ) (o : Option ℕ) → is_moment_reached up o ≡ false → IsLater up o
not_reached up None none = tt
not_reached up (Some m) none = grind (arith, nat_tests, none)

no_entry : (entries : List Entry) → is_some_entry entries ≡ false → entries ≡ []
no_entry [] none = refl
no_entry (entry ∷ entries) none = cc

module _ (before at : Reading) where
  quiet-each : (jobs : List Job) → AllByRecursion (Stands before) jobs → list_any (λ job. is_moment_reached at.up (next_moment job.past)) jobs ≡ false →
      (have_calendars jobs ≡ false) ⊎ (before.wall / 60 ≡ at.wall / 60) → AllByRecursion (IsQuietFor before at) jobs
  quiet-each [] all none minutes = tt
  quiet-each (job ∷ jobs) (stands, all) none minutes =
      let both = or-false (is_moment_reached at.up (next_moment job.past)) (list_any (λ j. is_moment_reached at.up (next_moment j.past)) jobs) none in
      let later : IsLater at.up (next_moment job.past) = not_reached at.up (next_moment job.past) both.0 in
      let moment : next_moment job.past ≡ next_by (facts_of job.past) before.up = next-by job.past stands.lawful ∙ ap (λ (r : Reading). next_by (facts_of job.past) r.up) stands.present in
      (record { later = subst (IsLater at.up) moment later; minutes = here minutes }, quiet-each jobs all both.1 (rest minutes)) where
        here : (have_calendars (job ∷ jobs) ≡ false) ⊎ (before.wall / 60 ≡ at.wall / 60) → AreOneMinute (definition_of job.past).calendar before.wall at.wall
        here (inl none) = inl (no_entry (definition_of job.past).calendar (or-false (is_some_entry (definition_of job.past).calendar) (have_calendars jobs) none).0)
        here (inr same) = inr same

        rest : (have_calendars (job ∷ jobs) ≡ false) ⊎ (before.wall / 60 ≡ at.wall / 60) → (have_calendars jobs ≡ false) ⊎ (before.wall / 60 ≡ at.wall / 60)
        rest (inl none) = inl (or-false (is_some_entry (definition_of job.past).calendar) (have_calendars jobs) none).1
        rest (inr same) = inr same

  pub quiet-jobs : (jobs : List Job) → AllByRecursion (Stands before) jobs → may_change jobs before at ≡ false → AllByRecursion (IsQuietFor before at) jobs
  quiet-jobs jobs all quiet =
      let outer = or-false (list_any (λ job. is_moment_reached at.up (next_moment job.past)) jobs) (have_calendars jobs && is_any_minute_crossed before.wall at.wall || nat_lt at.wall before.wall) quiet in
      let inner = or-false (have_calendars jobs && is_any_minute_crossed before.wall at.wall) (nat_lt at.wall before.wall) outer.1 in
      quiet-each jobs all outer.0 (go (have_calendars jobs) refl inner.0 inner.1) where
        go : (b : Bool) → have_calendars jobs ≡ b → (b && is_any_minute_crossed before.wall at.wall) ≡ false → nat_lt at.wall before.wall ≡ false → (have_calendars jobs ≡ false) ⊎ (before.wall / 60 ≡ at.wall / 60)
        go true is none forth = inr (same-minute before.wall at.wall none forth)
        go false is none forth = inl is

-- ---- two clock readings between which nothing of a job changes

pub record IsNear (before last : Reading) (job : Job) : Type 0 where
  pub crosses : (later : ℕ) → crosses_interval (definition_of job.past).start_interval (facts_of job.past).load_up last.up later
      ≡ crosses_interval (definition_of job.past).start_interval (facts_of job.past).load_up before.up later
  pub minutes : AreOneMinute (definition_of job.past).calendar before.wall last.wall

-- of one clock reading
pub near-same : (before last : Reading) → before ≡ last → (jobs : List Job) → AllByRecursion (IsNear before last) jobs
near-same before last same [] = tt
near-same before last same (job ∷ jobs) =
    (subst (λ (r : Reading). IsNear before r job) same (record { crosses = λ later. refl; minutes = inr refl }), near-same before last same jobs)

-- of a clock reading that changes nothing, and of the one before it
pub near-quiet : (before at : Reading) → before.up ≤ at.up → (jobs : List Job) → AllByRecursion (IsQuietFor before at) jobs → AllByRecursion (IsNear before at) jobs
near-quiet before at order [] all = tt
near-quiet before at order (job ∷ jobs) (quiet, all) = (
  record {
    crosses = crosses-alike before.up at.up order (facts_of job.past) quiet.later;
    minutes = quiet.minutes;
  },
  near-quiet before at order jobs all,
)
