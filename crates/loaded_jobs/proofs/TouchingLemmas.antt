-- If a job has a mark, the clock reading touches it.
use Rattle.std.proofs.Common.{◌≡◌, ◌⊎◌, inl, inr, ℕ, suc, ◌+◌, ◌-◌, ◌*◌, ◌/◌, ◌==◌, ◌<◌, ◌≤◌, nat_lt, nat_le, Bool, true, false, ◌||◌, ◌&&◌, cond, List, [], ◌∷◌, map, Option, Some, None, refl, sym, ap, ◌∙◌, subst, arith}
use Rattle.std.specs.Prelude.{slice_get, if◌then◌else◌}
use Rattle.std.specs.Option.{ForSome}
use Rattle.std.specs.List.{filter, list_any}
use Rattle.std.proofs.lemmas.Bool.{eqb-true}
use Rattle.std.proofs.lemmas.Bool.Decides.{nat_tests}
use Rattle.std.proofs.Math.Nat.{div-lt_iff_lt-mul, le-div_iff_mul-le, mul-le-mul_right}
use Rattle.place_set.specs.Places.{Places}
use Rattle.history_model.specs.declared.Reading.{Reading as Moment}
use Rattle.history_model.specs.declared.CivilMinute.{CivilMinute}
use Rattle.history_model.specs.declared.Entry.{Entry}
use Rattle.history_model.specs.Items.{History}
use Rattle.history_model.specs.Search.{first}
use Rattle.history_model.specs.Clock.{now, load_of, definition_of, crosses_interval}
use Rattle.history_model.specs.Calendar.{Zone, allows, crossed}
use Rattle.history_model.specs.NextMomentByFacts.{next_by}
use Rattle.history_model.specs.Facts.{Facts}
use Rattle.history_model.specs.FactsOfPast.{Keeps}
use Rattle.history_model.specs.Labels.{Label, is_same}
use Rattle.history_model.specs.Machine.{Job, is_of, past_in}
use Rattle.history_model.specs.Moments.{waits, next_moment, IsPeriod, IsMoment, is_reached, is_minute_crossed, touches}
use Rattle.history_model.proofs.ComingLemmas.{next-by}
use Rattle.history_model.proofs.MomentsLemmas.{is-one}
use Rattle.loaded_jobs.specs.StandsFor.{KeepsJob, KeepsJobs}
use Rattle.loaded_jobs.specs.Counts.{counts, count_in}
use Rattle.loaded_jobs.specs.JobSlots.{row, name, rows, AllStay}
use Rattle.loaded_jobs.specs.Periods.{HavePeriods}
use Rattle.loaded_jobs.specs.Index.{is_minute_among}
use Rattle.loaded_jobs.specs.Minutes.{has_calendars}
use Rattle.history_model.specs.News.{is_some_entry}
use Rattle.loaded_jobs.specs.Visiting.{is_spared, AreVisitedOnce}
use Rattle.loaded_jobs.specs.declared.job_slot.JobSlot.{JobSlot}
use Rattle.history_model.specs.declared.TheConstants.{SECOND}
use Rattle.history_model.proofs.BooleanLemmas.{or-true, or-false}

any-in : (previous up m : ℕ) (ws : List ℕ) → previous < m → m ≤ up → list_any (λ w. w == m) ws ≡ true → list_any (is_reached previous up) ws ≡ true
any-in previous up m [] after due there = cc
any-in previous up m (w ∷ ws) after due there = go (w == m) refl there (any-in previous up m ws after due) where
  go : (b : Bool) → (w == m) ≡ b → (b || list_any (λ v. v == m) ws) ≡ true → (list_any (λ v. v == m) ws ≡ true → list_any (is_reached previous up) ws ≡ true) →
      (is_reached previous up w || list_any (is_reached previous up) ws) ≡ true
  go true is there rest =
      let same : w ≡ m = eqb-true w m is in
      let low : nat_lt previous w ≡ true = grind (arith, nat_tests, same, after) in
      let high : nat_le w up ≡ true = grind (arith, nat_tests, same, due) in
      λ i. (low i && high i) || list_any (is_reached previous up) ws
  go false is there rest = ap (λ b. is_reached previous up w || b) (rest there) ∙ or-true (is_reached previous up w)

period-crossed : (o : Option ℕ) (load previous up m : ℕ) → ForSome o (λ seconds. 0 < seconds) → IsPeriod o load m → previous < m → m ≤ up → crosses_interval o load previous up ≡ true
period-crossed None load previous up m positive period after due = absurd period
period-crossed (Some seconds) load previous up m positive (k, one, same) after due =
    let some : 0 < seconds = positive seconds refl in
    let wide : 0 < SECOND * seconds = omega (arith, some) in
    let more : 1 * (SECOND * seconds) ≤ k * (SECOND * seconds) = mul-le-mul_right (SECOND * seconds) one in
    let a : previous - load < k * (SECOND * seconds) = omega (arith, after, same, more, wide) in
    let b : k * (SECOND * seconds) ≤ up - load = omega (arith, due, same) in
    let c : (previous - load) / (SECOND * seconds) < k = (div-lt_iff_lt-mul wide).1 a in
    let d : k ≤ (up - load) / (SECOND * seconds) = (le-div_iff_mul-le wide).1 b in
    grind (arith, nat_tests, c, d)

or-left-true : (a b c : Bool) → a ≡ true → (a || b || c) ≡ true
or-left-true true b c is = refl
or-left-true false b c is = cc

or-middle-true : (a b c : Bool) → b ≡ true → (a || b || c) ≡ true
or-middle-true true b c is = refl
or-middle-true false true c is = refl
or-middle-true false false c is = cc

or-right-true : (a b c : Bool) → c ≡ true → (a || b || c) ≡ true
or-right-true true b c is = refl
or-right-true false true c is = refl
or-right-true false false c is = is

pub affected-moment : (zone : Zone) (at : Moment) (f : Facts) (past : History) (m : ℕ) → Keeps f past → ForSome (definition_of past).start_interval (λ seconds. 0 < seconds) →
    next_by f (now past).up ≡ Some m → m ≤ at.up → touches zone at past ≡ true
affected-moment zone at f past m keeps positive next due =
    let moment : next_moment past ≡ Some m = next-by past keeps.lawful ∙ ap (λ g. next_by g (now past).up) (sym keeps.same) ∙ next in
    let one = is-one past positive m moment in
    go one.1 one.0 where
      go : IsMoment past m → (now past).up < m → touches zone at past ≡ true
      go (inl period) after = or-left-true (crosses_interval (definition_of past).start_interval (load_of past).at.up (now past).up at.up) (list_any (is_reached (now past).up at.up) (waits past)) (list_any (is_minute_crossed zone (crossed (now past).wall at.wall)) (definition_of past).calendar) (period-crossed (definition_of past).start_interval (load_of past).at.up (now past).up at.up m positive period after due)
      go (inr there) after = or-middle-true (crosses_interval (definition_of past).start_interval (load_of past).at.up (now past).up at.up) (list_any (is_reached (now past).up at.up) (waits past)) (list_any (is_minute_crossed zone (crossed (now past).wall at.wall)) (definition_of past).calendar) (any-in (now past).up at.up m (waits past) after due there)

-- ---- minutes

none-swapped : (zone : Zone) (cal : List Entry) (ms : List ℕ) → list_any (is_minute_crossed zone ms) cal ≡ false → is_minute_among cal (map zone ms) ≡ false
none-swapped zone cal [] none = refl
none-swapped zone cal (m ∷ ms) none = λ i. head cal none i || none-swapped zone cal ms (tail cal none) i where
  parts : (a b c : Bool) → ((a || b) || c) ≡ false → (a ≡ false) × ((b || c) ≡ false)
  parts true b c e = cc
  parts false b c e = (refl, e)

  head : (cal : List Entry) → list_any (is_minute_crossed zone (m ∷ ms)) cal ≡ false → list_any (λ entry. allows entry.minute (zone m).minute) cal ≡ false
  head [] none = refl
  head (entry ∷ rest) none =
      let both = or-false (allows entry.minute (zone m).minute || list_any (λ n. allows entry.minute (zone n).minute) ms) (list_any (is_minute_crossed zone (m ∷ ms)) rest) none in
      let one = or-false (allows entry.minute (zone m).minute) (list_any (λ n. allows entry.minute (zone n).minute) ms) both.0 in
      λ i. one.0 i || head rest both.1 i

  tail : (cal : List Entry) → list_any (is_minute_crossed zone (m ∷ ms)) cal ≡ false → list_any (is_minute_crossed zone ms) cal ≡ false
  tail [] none = refl
  tail (entry ∷ rest) none =
      let both = or-false (allows entry.minute (zone m).minute || list_any (λ n. allows entry.minute (zone n).minute) ms) (list_any (is_minute_crossed zone (m ∷ ms)) rest) none in
      let one = or-false (allows entry.minute (zone m).minute) (list_any (λ n. allows entry.minute (zone n).minute) ms) both.0 in
      λ i. one.1 i || tail rest both.1 i

pub affected-minute : (zone : Zone) (at : Moment) (past : History) (minutes : List CivilMinute) → minutes ≡ map zone (crossed (now past).wall at.wall) →
    is_minute_among (definition_of past).calendar minutes ≡ true → touches zone at past ≡ true
affected-minute zone at past minutes is among = go (list_any (is_minute_crossed zone (crossed (now past).wall at.wall)) (definition_of past).calendar) refl where
  go : (b : Bool) → list_any (is_minute_crossed zone (crossed (now past).wall at.wall)) (definition_of past).calendar ≡ b → touches zone at past ≡ true
  go true there =
      or-right-true (crosses_interval (definition_of past).start_interval (load_of past).at.up (now past).up at.up) (list_any (is_reached (now past).up at.up) (waits past))
      (list_any (is_minute_crossed zone (crossed (now past).wall at.wall)) (definition_of past).calendar) there
  go false none =
      let clash : true ≡ false = sym among ∙ ap (is_minute_among (definition_of past).calendar) is ∙ none-swapped zone (definition_of past).calendar (crossed (now past).wall at.wall) none in
      absurd (cc clash)

-- ---- the counts of those that are spared

-- a job with a mark is touched
abbrev pub MarksAffected : Zone → Moment → Places → ℕ → List JobSlot → List Job → Type 0
MarksAffected zone at ready place [] jobs = Unit {0}
MarksAffected zone at ready place (e ∷ es) [] = Unit {0}
MarksAffected zone at ready place (e ∷ es) (job ∷ jobs) =
    (is_spared ready place ≡ false → touches zone at job.past ≡ true) × MarksAffected zone at ready (suc place) es jobs

pub spared-count : (zone : Zone) (before at : Moment) (ready : Places) (place : ℕ) (es later : List JobSlot) (jobs : List Job) (label : Label) (past : History) →
    AllStay es → AreVisitedOnce (is_spared ready) place es later → KeepsJobs before (map row es) jobs → MarksAffected zone at ready place es jobs →
    past_in (first (filter (is_of label) jobs)) ≡ Some past → touches zone at past ≡ false →
    count_in (counts (rows later)) label ≡ count_in (counts (map row es)) label
spared-count zone before at ready place [] later [] label past stay visited_once keeps marks found none = cc
spared-count zone before at ready place [] later (job ∷ jobs) label past stay visited_once keeps marks found none = absurd keeps
spared-count zone before at ready place (e ∷ es) later [] label past stay visited_once keeps marks found none = absurd keeps
spared-count zone before at ready place (e ∷ es) [] (job ∷ jobs) label past stay visited_once keeps marks found none = absurd visited_once
spared-count zone before at ready place (e ∷ es) (n ∷ ns) (job ∷ jobs) label past stay visited_once keeps marks found none =
    go (is_same label e.def.label) refl (spared-count zone before at ready (suc place) es ns jobs label past stay.1 visited_once.3 keeps.1 marks.1) where
      go : (b : Bool) → is_same label e.def.label ≡ b →
          (past_in (first (filter (is_of label) jobs)) ≡ Some past → touches zone at past ≡ false →
          count_in (counts (rows ns)) label ≡ count_in (counts (map row es)) label) →
          count_in (counts (cond n.has_gone (rows ns) (row n ∷ rows ns))) label ≡ (if is_same label e.def.label then e.core.decided else count_in (counts (map row es)) label)
      go true is rest =
          let of : is_of label job ≡ true = ap (is_same label) (sym keeps.0.label) ∙ is in
          let here : Some job.past ≡ Some past = ap (λ b. past_in (first (cond b (job ∷ filter (is_of label) jobs) (filter (is_of label) jobs)))) (sym of) ∙ found in
          let same : job.past ≡ past = cc in
          let untouched : touches zone at job.past ≡ false = ap (touches zone at) same ∙ none in
          let spared : is_spared ready place ≡ true = spares (is_spared ready place) refl untouched in
          let kept : n ≡ e = visited_once.2 spared in
          let staying : n.has_gone ≡ false = ap (λ x. x.has_gone) kept ∙ stay.0 in
          ap (λ b. count_in (counts (cond b (rows ns) (row n ∷ rows ns))) label) staying
          ∙ ap (λ x. if is_same label x.def.label then x.core.decided else count_in (counts (rows ns)) label) kept
          ∙ ap (λ b. if b then e.core.decided else count_in (counts (rows ns)) label) is ∙ sym (ap (λ b. if b then e.core.decided else count_in (counts (map row es)) label) is) where
            spares : (b : Bool) → is_spared ready place ≡ b → touches zone at job.past ≡ false → is_spared ready place ≡ true
            spares true is none = is
            spares false is none = let clash : true ≡ false = sym (marks.0 is) ∙ none in absurd (cc clash)
      go false is rest =
          let of : is_of label job ≡ false = ap (is_same label) (sym keeps.0.label) ∙ is in
          let there : past_in (first (filter (is_of label) jobs)) ≡ Some past = ap (λ b. past_in (first (cond b (job ∷ filter (is_of label) jobs) (filter (is_of label) jobs)))) (sym of) ∙ found in
          head n.has_gone ∙ rest there none ∙ sym (ap (λ b. if b then e.core.decided else count_in (counts (map row es)) label) is) where
            head : (b : Bool) → count_in (counts (cond b (rows ns) (row n ∷ rows ns))) label ≡ count_in (counts (rows ns)) label
            head true = refl
            head false = ap (λ l. if is_same label l then n.core.decided else count_in (counts (rows ns)) label) (ap (λ m. m.described.label) visited_once.0)
                ∙ ap (λ b. if b then n.core.decided else count_in (counts (rows ns)) label) is

-- why a job has a mark
abbrev pub IsReason : Moment → Moment → List CivilMinute → JobSlot → Type 0
IsReason before at minutes e = ((m : ℕ) × (next_by e.core.facts before.up ≡ Some m) × (m ≤ at.up)) ⊎ (is_minute_among e.def.calendar minutes ≡ true)

some-entry : (calendar : List Entry) (minutes : List CivilMinute) → is_minute_among calendar minutes ≡ true → is_some_entry calendar ≡ true
some-entry [] minutes among = let clash : true ≡ false = sym among ∙ none-any minutes in absurd (cc clash) where
  none-any : (ms : List CivilMinute) → is_minute_among [] ms ≡ false
  none-any [] = refl
  none-any (m ∷ ms) = none-any ms
some-entry (entry ∷ rest) minutes among = refl

reason-touches : (zone : Zone) (before at : Moment) (minutes : List CivilMinute) (e : JobSlot) (job : Job) → KeepsJob before (row e) job → ForSome (definition_of job.past).start_interval (λ seconds. 0 < seconds) →
    (is_some_entry e.def.calendar ≡ true → minutes ≡ map zone (crossed before.wall at.wall)) → IsReason before at minutes e → touches zone at job.past ≡ true
reason-touches zone before at minutes e job keeps positive crosses (inl moment) =
    affected-moment zone at e.core.facts job.past moment.0 keeps.keeps positive (subst (λ r. next_by e.core.facts r.up ≡ Some moment.0) keeps.present moment.1) moment.2
reason-touches zone before at minutes e job keeps positive crosses (inr among) =
    affected-minute zone at job.past minutes (crosses (some-entry e.def.calendar minutes among) ∙ ap (λ r. map zone (crossed r.wall at.wall)) keeps.present)
    (ap (λ d. is_minute_among d.calendar minutes) (sym keeps.definition) ∙ among)

pub marks-affected : (zone : Zone) (before at : Moment) (minutes : List CivilMinute) (ready : Places) (place : ℕ) (es : List JobSlot) (jobs : List Job) → HavePeriods (map name es) →
    ((k : ℕ) (e : JobSlot) → slice_get es k ≡ Some e → is_spared ready (place + k) ≡ false → IsReason before at minutes e) →
    (has_calendars (map row es) ≡ true → minutes ≡ map zone (crossed before.wall at.wall)) → KeepsJobs before (map row es) jobs → MarksAffected zone at ready place es jobs
marks-affected zone before at minutes ready place [] jobs periods reasons crosses keeps = tt
marks-affected zone before at minutes ready place (e ∷ es) [] periods reasons crosses keeps = tt
marks-affected zone before at minutes ready place (e ∷ es) (job ∷ jobs) periods reasons crosses keeps = (
  λ marked. reason-touches zone before at minutes e job keeps.0 (subst (λ d. ForSome d.start_interval (λ seconds. 0 < seconds)) keeps.0.definition periods.0) (λ some. crosses (ap (λ b. b || has_calendars (map row es)) some))
      (reasons 0 e refl (subst (λ p. is_spared ready p ≡ false) (omega arith) marked)),
  marks-affected zone before at minutes ready (suc place) es jobs periods.1 (λ k x there marked. reasons (suc k) x there (subst (λ p. is_spared ready p ≡ false) (omega arith) marked))
      (λ some. crosses (ap (λ b. is_some_entry e.def.calendar || b) some ∙ or-true (is_some_entry e.def.calendar))) keeps.1,
)
