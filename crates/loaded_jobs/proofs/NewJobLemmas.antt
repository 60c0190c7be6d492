-- A new job is among the others, which rest.
use Rattle.std.proofs.Common.{◌≡◌, ◌≢◌, ℕ, zero, suc, ◌+◌, ◌==◌, ◌<◌, ◌≤◌, Bool, true, false, ◌||◌, cond, List, [], ◌∷◌, ◌++◌, map, take, drop, length, count_by, Option, Some, None, refl, sym, ap, ◌∙◌, subst, arith}
use Rattle.std.specs.Prelude.{slice_get, unwrap_or}
use Rattle.std.specs.List.{position, list_all, AllByRecursion}
use Rattle.std.specs.Global.{Vec}
use Rattle.std.specs.Vec.{vec_capacity, vec_len}
use Rattle.std.proofs.lemmas.Bool.Decides.{nat_tests}
use Rattle.slab.specs.Slab.{get, Updates}
use Rattle.timer_heap.specs.Timers.{moment_in, room as room_of}
use Rattle.history_model.specs.declared.Reading.{Reading}
use Rattle.history_model.specs.declared.TheConstants.{MAX_UP, MAX_WALL}
use Rattle.history_model.specs.Labels.{Label, is_same}
use Rattle.history_model.specs.Machine.{Job}
use Rattle.history_model.specs.Step.{with_job}
use Rattle.history_model.specs.MachineLaws.{AreInOrder}
use Rattle.loaded_jobs.specs.Periods.{HasPositivePeriod, HavePeriods}
use Rattle.loaded_jobs.proofs.PeriodsLemmas.{periods-placed}
use Rattle.loaded_jobs.specs.Tables.{Row, IsOnce, is_known, labels_in}
use Rattle.loaded_jobs.specs.StandsFor.{KeepsJob, KeepsJobs, IsAtRest}
use Rattle.loaded_jobs.specs.JobSlots.{row, name, has_label, is_above, place_for, job_slots_with}
use Rattle.loaded_jobs.specs.Index.{moment_for, IsNamed, IsIndexed}
use Rattle.loaded_jobs.specs.Loads.{IsReady}
use Rattle.loaded_jobs.specs.Minutes.{some_calendar}
use Rattle.history_model.specs.News.{is_some_entry}
use Rattle.loaded_jobs.specs.Triggers.{under, listed_in, AreOrdered}
use Rattle.loaded_jobs.specs.declared.trigger.Listed.{Listed}
use Rattle.loaded_jobs.specs.AffectedJobs.{is_at}
use Rattle.loaded_jobs.specs.Sound.{seen_table, AreHeld, AreFree, IsSound}
use Rattle.loaded_jobs.specs.Touched.{AreTimedBut, RestBut}
use Rattle.loaded_jobs.specs.declared.job_slot.JobSlot.{JobSlot}
use Rattle.loaded_jobs.specs.declared.jobs.Jobs.{Jobs}
use Rattle.loaded_jobs.specs.declared.loading.Ready.{Ready}
use Rattle.loaded_jobs.proofs.FirstLemmas.{IsFirstWhere, NonePasses, first-where, none-where, within-where}
use Rattle.loaded_jobs.proofs.EnteringLemmas.{once-placed, is-other, held-placed, before-job, calendars-placed}
use Rattle.loaded_jobs.proofs.IndexGrowthLemmas.{index-placed}
use Rattle.loaded_jobs.proofs.ReleaseLemmas.{free-placed}
use Rattle.loaded_jobs.proofs.TriggerCountLemmas.{exact-placed}
use Rattle.loaded_jobs.proofs.ByteOrderLemmas.{order-placed}
use Rattle.loaded_jobs.proofs.TouchedLemmas.{rest-each, differs}

pub place-low : {X : Type 0} (p : X → Bool) (xs : List X) (o : Option ℕ) → o ≡ position p xs → unwrap_or o (length xs) ≤ length xs
place-low p xs None is = omega arith
place-low p xs (Some k) is = let low = within-where p xs k (first-where p xs k is) in omega (arith, low)

-- each other slot was there before
pub stood : (new : JobSlot) (es : List JobSlot) (k j : ℕ) (e : JobSlot) → k ≤ length es → slice_get (take k es ++ new ∷ drop k es) j ≡ Some e → k ≢ j → (i : ℕ) × (slice_get es i ≡ Some e)
stood new es zero zero e low there differ = absurd (differ refl)
stood new es zero (suc j) e low there differ = (j, there)
stood new [] (suc k) j e low there differ = let clash : ⊥ = omega (arith, low) in absurd clash
stood new (x ∷ xs) (suc k) zero e low there differ = (0, there)
stood new (x ∷ xs) (suc k) (suc j) e low there differ =
    let found = stood new xs k j e (omega (arith, low)) there (λ same. differ (ap suc same)) in (suc found.0, found.1)

-- at its place is the new one
stands : (new : JobSlot) (es : List JobSlot) (k : ℕ) → k ≤ length es → slice_get (take k es ++ new ∷ drop k es) k ≡ Some new
stands new es zero low = refl
stands new [] (suc k) low = let clash : ⊥ = omega (arith, low) in absurd clash
stands new (x ∷ xs) (suc k) low = stands new xs k (omega (arith, low))

-- each slot before its place was there
pub stood-before : (new : JobSlot) (es : List JobSlot) (p k : ℕ) (e : JobSlot) → slice_get (take p es ++ new ∷ drop p es) k ≡ Some e → p ≤ length es → k < p → slice_get es k ≡ Some e
stood-before new es zero k e there long low = absurd (omega (arith, low))
stood-before new [] (suc p) k e there long low = absurd (omega (arith, long))
stood-before new (x ∷ xs) (suc p) zero e there long low = there
stood-before new (x ∷ xs) (suc p) (suc k) e there long low = stood-before new xs p k e there (omega (arith, long)) (omega (arith, low))

-- each slot after its place was one before
pub stood-behind : (new : JobSlot) (es : List JobSlot) (p k : ℕ) (e : JobSlot) → slice_get (take p es ++ new ∷ drop p es) k ≡ Some e → p ≤ length es → p < k →
    (j : ℕ) × (slice_get es j ≡ Some e) × (k ≡ suc j)
stood-behind new es zero zero e there long high = absurd (omega (arith, high))
stood-behind new es zero (suc j) e there long high = (j, there, refl)
stood-behind new [] (suc p) k e there long high = absurd (omega (arith, long))
stood-behind new (x ∷ xs) (suc p) zero e there long high = absurd (omega (arith, high))
stood-behind new (x ∷ xs) (suc p) (suc k) e there long high =
    let found = stood-behind new xs p k e there (omega (arith, long)) (omega (arith, high)) in (suc found.0, found.1, ap suc found.2)

pub more-job_slots : (new : JobSlot) (es : List JobSlot) (k : ℕ) → length (take k es ++ new ∷ drop k es) ≡ suc (length es)
more-job_slots new es zero = refl
more-job_slots new [] (suc k) = refl
more-job_slots new (e ∷ es) (suc k) = ap suc (more-job_slots new es k)

-- a job with another label is not at the place of the new one
pub new-apart : (new : JobSlot) (es later : List JobSlot) (k received : ℕ) (label : Label) → later ≡ take k es ++ new ∷ drop k es → received ≡ k → k ≤ length es → is_same label new.def.label ≡ false →
    (j : ℕ) (e : JobSlot) → slice_get later j ≡ Some e → has_label label e ≡ true → is_at received j e.def ≡ false
new-apart new es later k received label is at low differ j e there has = go (received == j) refl where
  go : (b : Bool) → (received == j) ≡ b → (received == j) ≡ false
  go false apart = apart
  go true same =
      let here : k ≡ j = grind (arith, nat_tests, same, at) in
      let own : Some new ≡ Some e = sym (stands new es k low) ∙ ap (λ xs. slice_get xs k) (sym is) ∙ ap (slice_get later) here ∙ there in
      let job_slot : new ≡ e = cc in
      let clash : true ≡ false = sym has ∙ ap (has_label label) (sym job_slot) ∙ differ in
      absurd (cc clash)

module _ (at : Reading) (new : JobSlot) (job : Job) (this : KeepsJob at (row new) job) (received : ℕ) where
  rest-at : (rs : List Row) (es : List JobSlot) (k place : ℕ) (jobs : List Job) → KeepsJobs at (map row es) jobs → IsFirstWhere (is_above new.def.label) es k → received ≡ place + k →
      AllByRecursion IsAtRest jobs → RestBut (is_at received) place rs (with_job job jobs)
  rest-at [] es k place jobs keeps first is rests = tt
  rest-at (row ∷ rs) [] k place jobs keeps first is rests = absurd first
  rest-at (row ∷ rs) (e ∷ es) k place [] keeps first is rests = absurd keeps
  rest-at (row ∷ rs) (e ∷ es) zero place (j ∷ js) keeps first is rests =
      subst (RestBut (is_at received) place (row ∷ rs)) (ap (λ b. cond b (job ∷ j ∷ js) (j ∷ with_job job js)) (sym (before-job at new job this e j true keeps.0 first)))
      ((λ apart. (let clash : ⊥ = grind (arith, nat_tests, apart, is) in absurd clash)), rest-each (is_at received) (suc place) rs (j ∷ js) rests)
  rest-at (row ∷ rs) (e ∷ es) (suc k) place (j ∷ js) keeps first is rests =
      subst (RestBut (is_at received) place (row ∷ rs)) (ap (λ b. cond b (job ∷ j ∷ js) (j ∷ with_job job js)) (sym (before-job at new job this e j false keeps.0 first.0)))
      ((λ apart. rests.0), rest-at rs es k (suc place) js keeps.1 first.1 (omega (arith, is)) rests.1)

  rest-last : (rs : List Row) (es : List JobSlot) (place : ℕ) (jobs : List Job) → KeepsJobs at (map row es) jobs → NonePasses (is_above new.def.label) es → received ≡ place + length es →
      AllByRecursion IsAtRest jobs → RestBut (is_at received) place rs (with_job job jobs)
  rest-last [] es place jobs keeps none is rests = tt
  rest-last (row ∷ rs) [] place [] keeps none is rests =
      ((λ apart. (let clash : ⊥ = grind (arith, nat_tests, apart, is) in absurd clash)), rest-each (is_at received) (suc place) rs [] tt)
  rest-last (row ∷ rs) [] place (j ∷ js) keeps none is rests = absurd keeps
  rest-last (row ∷ rs) (e ∷ es) place [] keeps none is rests = absurd keeps
  rest-last (row ∷ rs) (e ∷ es) place (j ∷ js) keeps none is rests =
      subst (RestBut (is_at received) place (row ∷ rs)) (ap (λ b. cond b (job ∷ j ∷ js) (j ∷ with_job job js)) (sym (before-job at new job this e j false keeps.0 none.0)))
      ((λ apart. rests.0), rest-last rs es (suc place) js keeps.1 none.1 (omega (arith, is)) rests.1)

-- the others rest as they did
pub rest-entered : (at : Reading) (new : JobSlot) (job : Job) (this : KeepsJob at (row new) job) (rs : List Row) (es : List JobSlot) (jobs : List Job) (o : Option ℕ) → KeepsJobs at (map row es) jobs →
    o ≡ position (is_above new.def.label) es → AllByRecursion IsAtRest jobs → RestBut (is_at (unwrap_or o (length es))) 0 rs (with_job job jobs)
rest-entered at new job this rs es jobs None keeps is rests =
    rest-last at new job this (length es) rs es 0 jobs keeps (none-where (is_above new.def.label) es is) (omega arith) rests
rest-entered at new job this rs es jobs (Some k) keeps is rests =
    rest-at at new job this k rs es k 0 jobs keeps (first-where (is_above new.def.label) es k is) (omega arith) rests

-- ---- the table with the new job

pub entered-sound : (old new : Jobs) (ready : Ready) → IsSound old → IsReady (seen_table old) ready → new.reading ≡ old.reading → new.job_slots.items ≡ job_slots_with ready.job_slot old.job_slots.items →
    vec_len new.job_slots ≡ vec_len old.job_slots + 1 → new.orders ≡ old.orders → get old.numbers old.numbers.vacant_key ≡ None → Updates old.numbers new.numbers old.numbers.vacant_key (Some tt) →
    new.index ≡ old.index → HasPositivePeriod ready.job_slot.def → new.has_calendars ≡ (old.has_calendars || is_some_entry ready.job_slot.def.calendar) →
    ((test : Listed → Bool) → count_by test new.triggers.items ≡ count_by test old.triggers.items + count_by (λ trigger. test (under ready.job_slot.number trigger)) ready.triggers.items) →
    AreOrdered new.triggers.items → IsSound new
entered-sound old new ready sound is reading job_slots count orders vacant numbers index period calendars exact listed =
    let es = old.job_slots.items in
    let own = ready.job_slot in
    let k = place_for own.def.label es in
    let other = is-other old.numbers own es sound.held (subst (λ n. get old.numbers n ≡ None) (sym is.number) vacant) is.absent in
    let updated = subst (λ n. Updates old.numbers new.numbers n (Some tt)) (sym is.number) numbers in
    let none = ap (λ all. all.items) orders ∙ is.empty in
    let same = ap vec_capacity orders in
    record {
      in_range = subst (λ at. at.up ≤ MAX_UP) (sym reading) sound.in_range;
      wall = subst (λ at. at.wall ≤ MAX_WALL) (sym reading) sound.wall;
      once = subst (λ all. IsOnce (map name all)) (sym job_slots) (once-placed own es k sound.once other);
      held = subst (AreHeld new.numbers) (sym job_slots) (held-placed old.numbers new.numbers own es k updated other sound.held);
      free = subst (λ all. AreFree new.numbers (map name all)) (sym job_slots) (free-placed old.numbers new.numbers own es k updated sound.free);
      known = ap (list_all (is_known (map name new.job_slots.items))) none;
      few = let few = is.few in omega (arith, few, count);
      room = let room = is.orders in omega (arith, room, count, same);
      named = subst (λ i. IsNamed i (map name new.job_slots.items)) (sym index) (subst (λ all. IsNamed old.index (map name all)) (sym job_slots)
          (index-placed old.index own es k (subst (λ n. n < room_of old.index.timers) (sym is.number) is.moments)
          (subst (λ n. n < length old.index.places.items) (sym is.number) is.numbered) (let marks = is.marks in omega (arith, marks)) sound.named));
      periods = subst (λ all. HavePeriods (map name all)) (sym job_slots) (periods-placed own es k period sound.periods);
      calendars = calendars ∙ ap (λ b. b || is_some_entry own.def.calendar) sound.calendars ∙ sym (calendars-placed own es k) ∙ ap (λ all. some_calendar (map name all)) (sym job_slots);
      listed = record {
        exact = subst (λ all. (test : Listed → Bool) → count_by test new.triggers.items ≡ count_by test (listed_in (map name all))) (sym job_slots)
            (exact-placed old.triggers.items new.triggers.items own es k sound.listed.exact
            (λ test. exact test ∙ ap (λ ts. count_by test old.triggers.items + count_by (λ trigger. test (under own.number trigger)) ts) is.touches));
        order = listed;
      };
      order = subst (λ all. AreInOrder (labels_in (map name all))) (sym job_slots) (order-placed own es is.absent sound.order);
    }

-- the places may be other ones
pub replaced-sound : (t : Jobs) (places : Vec ℕ) → length places.items ≡ length t.index.places.items → IsSound t → IsSound (record t { index = record t.index { places = places } })
replaced-sound t places long sound = record {
  in_range = sound.in_range;
  wall = sound.wall;
  once = sound.once;
  held = sound.held;
  free = sound.free;
  few = sound.few;
  known = sound.known;
  room = sound.room;
  named = record {
    alone = sound.named.alone;
    space = sound.named.space;
    fits = λ number named. subst (λ n. number < n) (sym long) (sound.named.fits number named);
    empty = sound.named.empty;
    marks = sound.named.marks;
  };
  periods = sound.periods;
  calendars = sound.calendars;
  listed = sound.listed;
  order = sound.order;
}

-- each other job has its moment
pub timed-entered : (old t : Jobs) (new : JobSlot) (k received : ℕ) → t.job_slots.items ≡ take k old.job_slots.items ++ new ∷ drop k old.job_slots.items → received ≡ k → k ≤ length old.job_slots.items → IsIndexed old →
    t.index.timers ≡ old.index.timers → t.reading ≡ old.reading → AreTimedBut (is_at received) t
timed-entered old t new k received job_slots at low indexed timers reading j e there apart =
    let found = stood new old.job_slots.items k j e low (ap (λ xs. slice_get xs j) (sym job_slots) ∙ there) (subst (λ p. p ≢ j) at (differs received j apart)) in
    ap (λ heap. moment_in heap e.number) timers ∙ indexed.timed found.0 e found.1 ∙ ap (λ r. moment_for e r.up) (sym reading)
