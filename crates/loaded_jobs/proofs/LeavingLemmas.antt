-- What the table is once the jobs that went are dropped.
use Rattle.std.proofs.Common.{◌≡◌, inl, inr, ℕ, zero, suc, ◌==◌, ◌<◌, ◌≤◌, Bool, true, false, not, ◌&&◌, ◌||◌, cond, List, [], ◌∷◌, ◌++◌, map, count_by, Some, None, refl, sym, ap, ◌∙◌, subst, arith}
use Rattle.std.specs.Prelude.{slice_get}
use Rattle.std.specs.List.{list_any, list_all, filter, remove}
use Rattle.std.specs.Vec.{vec_len, vec_capacity}
use Rattle.std.specs.Global.{Vec}
use Rattle.history_model.specs.declared.Order.{Order}
use Rattle.std.proofs.lemmas.Bool.Decides.{nat_tests}
use Rattle.slab.specs.Slab.{Slab, get, Updates}
use Rattle.history_model.specs.declared.TheConstants.{MAX_UP, MAX_WALL}
use Rattle.history_model.specs.MachineLaws.{AreInOrder}
use Rattle.loaded_jobs.specs.Tables.{Name, IsOther, IsOnce, labels_in, is_known}
use Rattle.loaded_jobs.specs.JobSlots.{name, AllStay, job_slot_stays, has_gone_under}
use Rattle.loaded_jobs.specs.Index.{IsNamed, IsIndexed, IsIndexOf, ArePlaced, AreTimed}
use Rattle.loaded_jobs.specs.Leaving.{AllStayBut, IsWithout, is_of_other}
use Rattle.loaded_jobs.specs.Minutes.{some_calendar}
use Rattle.history_model.specs.News.{is_some_entry}
use Rattle.loaded_jobs.specs.Periods.{HavePeriods}
use Rattle.loaded_jobs.specs.Sound.{AreHeld, AreFree, IsSound}
use Rattle.loaded_jobs.specs.Triggers.{AreListed, AreOrdered, triggers_of, listed_in, under, stays_under}
use Rattle.loaded_jobs.specs.declared.job_slot.JobSlot.{JobSlot}
use Rattle.loaded_jobs.specs.declared.jobs.Jobs.{Jobs}
use Rattle.loaded_jobs.specs.declared.gone_jobs.Gone.{Gone}
use Rattle.loaded_jobs.specs.declared.trigger.Listed.{Listed}
use Rattle.loaded_jobs.proofs.TidyLemmas.{tidy-once, tidy-held}
use Rattle.loaded_jobs.proofs.ReleaseLemmas.{tidy-free}
use Rattle.loaded_jobs.proofs.IndexGrowthLemmas.{tidy-named, tidy-timed, named-of, replaced}
use Rattle.loaded_jobs.proofs.PeriodsLemmas.{periods-tidy}
use Rattle.loaded_jobs.proofs.ByteOrderLemmas.{order-tidy}
use Rattle.loaded_jobs.proofs.EnteringLemmas.{number-false}
use Rattle.loaded_jobs.proofs.RankLemmas.{kept-order}
use Rattle.loaded_jobs.proofs.EventsLemmas.{calendars-names}
use Rattle.loaded_jobs.proofs.TriggersLemmas.{exact-kept, exact-tidy}

-- ---- the one that went

pub filter-all : (es : List JobSlot) → AllStay es → filter job_slot_stays es ≡ es
filter-all [] stay = refl
filter-all (e ∷ es) stay = ap (λ b. cond (not b) (e ∷ filter job_slot_stays es) (filter job_slot_stays es)) stay.0 ∙ ap (λ rest. e ∷ rest) (filter-all es stay.1)

module _ (gone : JobSlot) (went : gone.has_gone ≡ true) where
  -- without it, all that stay are left
  pub without : (place : ℕ) (es : List JobSlot) → AllStayBut place es → slice_get es place ≡ Some gone → remove es place ≡ filter job_slot_stays es
  without zero [] others at = cc
  without (suc place) [] others at = cc
  without zero (x ∷ xs) others at =
      let same : x ≡ gone = cc in
      sym (filter-all xs others) ∙ sym (ap (λ b. cond (not b) (x ∷ filter job_slot_stays xs) (filter job_slot_stays xs)) (ap (λ y. y.has_gone) same ∙ went))
  without (suc place) (x ∷ xs) others at =
      ap (λ rest. x ∷ rest) (without place xs others.1 at) ∙ sym (ap (λ b. cond (not b) (x ∷ filter job_slot_stays xs) (filter job_slot_stays xs)) others.0)

  pub own-gone : (place : ℕ) (es : List JobSlot) (number : ℕ) → slice_get es place ≡ Some gone → gone.number ≡ number → list_any (has_gone_under number) es ≡ true
  own-gone zero [] number at is = cc
  own-gone (suc place) [] number at is = cc
  own-gone zero (x ∷ xs) number at is =
      let same : x ≡ gone = cc in
      let here : has_gone_under number x ≡ true = ap (has_gone_under number) same ∙ ap (λ b. b && (gone.number == number)) went ∙ grind (arith, nat_tests, is) in
      ap (λ b. b || list_any (has_gone_under number) xs) here
  own-gone (suc place) (x ∷ xs) number at is =
      ap (λ b. has_gone_under number x || b) (own-gone place xs number at is) ∙ or-true (has_gone_under number x)
    where
      or-true : (b : Bool) → (b || true) ≡ true
      or-true true = refl
      or-true false = refl

none-gone : (es : List JobSlot) (number : ℕ) → AllStay es → list_any (has_gone_under number) es ≡ false
none-gone [] number stay = refl
none-gone (x ∷ xs) number stay = ap (λ b. (b && (x.number == number)) || list_any (has_gone_under number) xs) stay.0 ∙ none-gone xs number stay.1

-- only its number is that of a job that went
pub only-gone : (gone : JobSlot) (place : ℕ) (es : List JobSlot) (number : ℕ) → AllStayBut place es → slice_get es place ≡ Some gone → list_any (has_gone_under number) es ≡ true → gone.number ≡ number
only-gone gone zero [] number others at some = cc
only-gone gone (suc place) [] number others at some = cc
only-gone gone zero (x ∷ xs) number others at some = go x.has_gone (x.number == number) refl some
  where
    same : x ≡ gone
    same = cc

    go : (b own : Bool) → (x.number == number) ≡ own → ((b && own) || list_any (has_gone_under number) xs) ≡ true → gone.number ≡ number
    go true true is some = ap (λ y. y.number) (sym same) ∙ grind (arith, nat_tests, is)
    go true false is some = let clash : true ≡ false = sym some ∙ none-gone xs number others in cc
    go false own is some = let clash : true ≡ false = sym some ∙ none-gone xs number others in cc
only-gone gone (suc place) (x ∷ xs) number others at some =
    only-gone gone place xs number others.1 at (sym (ap (λ b. (b && (x.number == number)) || list_any (has_gone_under number) xs) others.0) ∙ some)

number-apart : (m n : ℕ) → (m == n) ≡ false → (n == m) ≡ false
number-apart m n differ = number-false m n differ

other-at : (n : Name) (es : List JobSlot) (k : ℕ) (e : JobSlot) → IsOther n (map name es) → slice_get es k ≡ Some e → (n.number == e.number) ≡ false
other-at n [] zero e other at = cc
other-at n [] (suc k) e other at = cc
other-at n (x ∷ xs) zero e other at = let same : x ≡ e = cc in ap (λ y. n.number == y.number) (sym same) ∙ other.0
other-at n (x ∷ xs) (suc k) e other at = other-at n xs k e other.2 at

all-get : (es : List JobSlot) (k : ℕ) (e : JobSlot) → AllStay es → slice_get es k ≡ Some e → e.has_gone ≡ false
all-get [] zero e stay at = cc
all-get [] (suc k) e stay at = cc
all-get (x ∷ xs) zero e stay at = let same : x ≡ e = cc in ap (λ y. y.has_gone) (sym same) ∙ stay.0
all-get (x ∷ xs) (suc k) e stay at = all-get xs k e stay.1 at

eq-self : (n : ℕ) → (n == n) ≡ true
eq-self n = grind arith

-- the jobs with another number are those that stay
pub other-stays : (gone : JobSlot) → gone.has_gone ≡ true → (place : ℕ) (es : List JobSlot) → IsOnce (map name es) → AllStayBut place es → slice_get es place ≡ Some gone →
    (k : ℕ) (e : JobSlot) → slice_get es k ≡ Some e → not (e.number == gone.number) ≡ job_slot_stays e
other-stays gone went zero [] once others at k e there = cc
other-stays gone went (suc place) [] once others at k e there = cc
other-stays gone went zero (x ∷ xs) once others at zero e there =
    let same : x ≡ gone = cc in
    let this : x ≡ e = cc in
    let both : e ≡ gone = sym this ∙ same in
    ap (λ n. not (n == gone.number)) (ap (λ y. y.number) both) ∙ ap not (eq-self gone.number) ∙ sym (ap not (ap (λ y. y.has_gone) both ∙ went))
other-stays gone went zero (x ∷ xs) once others at (suc k) e there =
    let same : x ≡ gone = cc in
    ap not (number-apart gone.number e.number (ap (λ y. y.number == e.number) (sym same) ∙ other-at (name x) xs k e once.0 there)) ∙ sym (ap not (all-get xs k e others there))
other-stays gone went (suc place) (x ∷ xs) once others at zero e there =
    let this : x ≡ e = cc in
    ap (λ y. not (y.number == gone.number)) (sym this) ∙ ap not (other-at (name x) xs place gone once.0 at) ∙ sym (ap not (ap (λ y. y.has_gone) (sym this) ∙ others.0))
other-stays gone went (suc place) (x ∷ xs) once others at (suc k) e there = other-stays gone went place xs once.1 others.1 at k e there

-- without its triggers, those of the jobs that stay are left
pub listed-other : (gone : JobSlot) → gone.has_gone ≡ true → (place : ℕ) (es : List JobSlot) → IsOnce (map name es) → AllStayBut place es → slice_get es place ≡ Some gone →
    (listed : List Listed) → AreListed listed (map name es) → AreListed (filter (is_of_other gone.number) listed) (map name (filter job_slot_stays es))
listed-other gone went place es once others at listed are = record {
  exact = exact-kept (is_of_other gone.number) es (λ k e there trigger. other-stays gone went place es once others at k e there) listed are.exact;
  order = kept-order (is_of_other gone.number) listed are.order;
}

-- if it has none, the list of the others is the same
listed-same : (gone : JobSlot) → gone.has_gone ≡ true → triggers_of gone.def ≡ [] → (place : ℕ) (es : List JobSlot) → AllStayBut place es → slice_get es place ≡ Some gone →
    listed_in (map name es) ≡ listed_in (map name (filter job_slot_stays es))
listed-same gone went none zero [] others at = cc
listed-same gone went none (suc place) [] others at = cc
listed-same gone went none zero (x ∷ xs) others at =
    let same : x ≡ gone = cc in
    ap (λ ts. map (under x.number) ts ++ listed_in (map name xs)) (ap (λ y. triggers_of y.def) same ∙ none)
    ∙ sym (ap (λ es. listed_in (map name es)) (ap (λ b. cond (not b) (x ∷ filter job_slot_stays xs) (filter job_slot_stays xs)) (ap (λ y. y.has_gone) same ∙ went) ∙ filter-all xs others))
listed-same gone went none (suc place) (x ∷ xs) others at =
    ap (λ rest. map (under x.number) (triggers_of x.def) ++ rest) (listed-same gone went none place xs others.1 at)
    ∙ sym (ap (λ b. listed_in (map name (cond (not b) (x ∷ filter job_slot_stays xs) (filter job_slot_stays xs)))) others.0)

pub listed-still : (gone : JobSlot) → gone.has_gone ≡ true → triggers_of gone.def ≡ [] → (place : ℕ) (es : List JobSlot) → AllStayBut place es → slice_get es place ≡ Some gone →
    (listed : List Listed) → AreListed listed (map name es) → AreListed listed (map name (filter job_slot_stays es))
listed-still gone went none place es others at listed are = record {
  exact = λ test. are.exact test ∙ ap (count_by test) (listed-same gone went none place es others at);
  order = are.order;
}

-- if it has no calendar entry, some other job has one if some job had
pub calendar-still : (gone : JobSlot) → gone.has_gone ≡ true → is_some_entry gone.def.calendar ≡ false → (place : ℕ) (es : List JobSlot) → AllStayBut place es → slice_get es place ≡ Some gone →
    some_calendar (map name es) ≡ some_calendar (map name (filter job_slot_stays es))
calendar-still gone went none zero [] others at = cc
calendar-still gone went none (suc place) [] others at = cc
calendar-still gone went none zero (x ∷ xs) others at =
    let same : x ≡ gone = cc in
    ap (λ b. b || some_calendar (map name xs)) (ap (λ y. is_some_entry y.def.calendar) same ∙ none)
    ∙ sym (ap (λ es. some_calendar (map name es)) (ap (λ b. cond (not b) (x ∷ filter job_slot_stays xs) (filter job_slot_stays xs)) (ap (λ y. y.has_gone) same ∙ went) ∙ filter-all xs others))
calendar-still gone went none (suc place) (x ∷ xs) others at =
    ap (λ b. is_some_entry x.def.calendar || b) (calendar-still gone went none place xs others.1 at)
    ∙ sym (ap (λ b. some_calendar (map name (cond (not b) (x ∷ filter job_slot_stays xs) (filter job_slot_stays xs)))) others.0)

-- the slots before the one that is removed are those that were there
pub before-removed : (es : List JobSlot) (place k : ℕ) (e : JobSlot) → slice_get (remove es place) k ≡ Some e → k < place → slice_get es k ≡ Some e
before-removed es zero k e at low = absurd (omega (arith, low))
before-removed [] (suc place) zero e at low = cc
before-removed [] (suc place) (suc k) e at low = cc
before-removed (x ∷ xs) (suc place) zero e at low = at
before-removed (x ∷ xs) (suc place) (suc k) e at low = before-removed xs place k e at (omega (arith, low))

-- those after it was one further back
pub after-removed : (es : List JobSlot) (place k : ℕ) (e : JobSlot) → slice_get (remove es place) k ≡ Some e → place ≤ k → slice_get es (suc k) ≡ Some e
after-removed [] zero zero e at high = cc
after-removed [] zero (suc k) e at high = cc
after-removed [] (suc place) zero e at high = cc
after-removed [] (suc place) (suc k) e at high = cc
after-removed (x ∷ xs) zero k e at high = at
after-removed (x ∷ xs) (suc place) zero e at high = absurd (omega (arith, high))
after-removed (x ∷ xs) (suc place) (suc k) e at high = after-removed xs place k e at (omega (arith, high))

-- ---- the table without those that went

pub record IsTidied (old new : Jobs) : Type 0 where
  pub job_slots : new.job_slots.items ≡ filter job_slot_stays old.job_slots.items
  pub count : vec_len new.job_slots ≤ vec_len old.job_slots
  pub reading : new.reading ≡ old.reading
  pub freed : (number : ℕ) → list_any (has_gone_under number) old.job_slots.items ≡ true → get new.numbers number ≡ None
  pub kept : (number : ℕ) → list_any (has_gone_under number) old.job_slots.items ≡ false → get new.numbers number ≡ get old.numbers number
  pub empty : new.orders.items ≡ []
  pub room : vec_capacity new.orders ≡ vec_capacity old.orders
  pub timers : new.index.timers ≡ old.index.timers
  pub ready : new.index.marked ≡ old.index.marked
  pub placed : ArePlaced new.index.places.items new.job_slots.items
  pub calendars : new.has_calendars ≡ some_calendar (map name new.job_slots.items)
  pub listed : AreListed new.triggers.items (map name (filter job_slot_stays old.job_slots.items))

pub tidied-indexed : (old new : Jobs) → IsIndexed old → IsTidied old new → IsIndexed new
tidied-indexed old new indexed is =
    let stay : filter job_slot_stays old.job_slots.items ≡ new.job_slots.items = sym is.job_slots in
    subst (λ at. IsIndexOf new.index at.up new.job_slots.items) (sym is.reading)
    (replaced old.index new.index old.reading.up new.job_slots.items
    (subst (λ es. IsNamed old.index (map name es)) stay (tidy-named old.index old.reading.up old.job_slots.items indexed))
    (subst (AreTimed old.index.timers old.reading.up) stay (tidy-timed old.index.timers old.reading.up old.job_slots.items indexed.timed))
    is.placed is.timers is.ready)

pub tidied-sound : (old new : Jobs) → IsSound old → IsIndexed old → IsTidied old new → IsSound new
tidied-sound old new sound indexed is =
    let es = old.job_slots.items in
    record {
      in_range = subst (λ at. at.up ≤ MAX_UP) (sym is.reading) sound.in_range;
      wall = subst (λ at. at.wall ≤ MAX_WALL) (sym is.reading) sound.wall;
      once = subst (λ es. IsOnce (map name es)) (sym is.job_slots) (tidy-once es sound.once);
      held = subst (AreHeld new.numbers) (sym is.job_slots) (tidy-held old.numbers new.numbers es is.kept sound.once sound.held);
      free = subst (λ es. AreFree new.numbers (map name es)) (sym is.job_slots) (tidy-free old.numbers new.numbers es is.freed is.kept sound.free);
      known = ap (list_all (is_known (map name new.job_slots.items))) is.empty;
      few = let few = sound.few in let less = is.count in omega (arith, few, less);
      room = let room = sound.room in let less = is.count in let same = is.room in omega (arith, room, less, same);
      named = named-of new.index new.reading.up new.job_slots.items (tidied-indexed old new indexed is);
      periods = subst (λ es. HavePeriods (map name es)) (sym is.job_slots) (periods-tidy es sound.periods);
      calendars = is.calendars;
      listed = subst (λ es. AreListed new.triggers.items (map name es)) (sym is.job_slots) is.listed;
      order = subst (λ es. AreInOrder (labels_in (map name es))) (sym is.job_slots) (order-tidy es sound.order);
    }

-- the table once all that went are dropped
pub tidied-all : (old : Jobs) (numbers : Slab (Unit {0})) (listed : Vec Listed) (job_slots : Vec JobSlot) (places : Vec ℕ) (flag : Bool) → IsSound old → IsIndexed old → old.orders.items ≡ [] →
    job_slots.items ≡ filter job_slot_stays old.job_slots.items → vec_len job_slots ≤ vec_len old.job_slots →
    ((number : ℕ) → list_any (has_gone_under number) old.job_slots.items ≡ true → get numbers number ≡ None) →
    ((number : ℕ) → list_any (has_gone_under number) old.job_slots.items ≡ false → get numbers number ≡ get old.numbers number) →
    listed.items ≡ filter (stays_under old.index.places.items old.job_slots.items) old.triggers.items → ArePlaced places.items job_slots.items → flag ≡ some_calendar (map name job_slots.items) →
    IsTidied old (record old { job_slots = job_slots; numbers = numbers; index = record old.index { places = places }; has_calendars = flag; triggers = listed })
tidied-all old numbers listed job_slots places flag sound indexed empty tidy count freed kept forgot placed calendars = record {
  job_slots = tidy;
  count = count;
  reading = refl;
  freed = freed;
  kept = kept;
  empty = empty;
  room = refl;
  timers = refl;
  ready = refl;
  placed = placed;
  calendars = calendars;
  listed = record {
    exact = λ test. ap (count_by test) forgot ∙ exact-tidy old.index.places.items old.job_slots.items indexed.placed old.triggers.items sound.listed.exact test;
    order = subst AreOrdered (sym forgot) (kept-order (stays_under old.index.places.items old.job_slots.items) old.triggers.items sound.listed.order);
  };
}

-- the table once the one that went is dropped
pub tidied-one : (old : Jobs) (place : ℕ) (gone : JobSlot) (numbers : Slab (Unit {0})) (listed : Vec Listed) (job_slots : Vec JobSlot) (places : Vec ℕ) (flag : Bool) →
    IsSound old → old.orders.items ≡ [] → AllStayBut place old.job_slots.items → slice_get old.job_slots.items place ≡ Some gone → gone.has_gone ≡ true →
    job_slots.items ≡ remove old.job_slots.items place → vec_len job_slots ≤ vec_len old.job_slots → Updates old.numbers numbers gone.number None →
    IsWithout gone old.triggers.items listed.items → ArePlaced places.items job_slots.items →
    flag ≡ cond (is_some_entry gone.def.calendar) (list_any (λ e. is_some_entry e.def.calendar) job_slots.items) old.has_calendars →
    IsTidied old (record old { job_slots = job_slots; numbers = numbers; index = record old.index { places = places }; has_calendars = flag; triggers = listed })
tidied-one old place gone numbers listed job_slots places flag sound empty others at went removed count freed forgot placed calendars = record {
  job_slots = tidy;
  count = count;
  reading = refl;
  freed = λ number some. subst (λ n. get numbers n ≡ None) (only-gone gone place old.job_slots.items number others at some) freed.changed;
  kept = λ number none. freed.others number (λ same. (let clash : true ≡ false = sym (own-gone gone went place old.job_slots.items number at (sym same)) ∙ none in cc));
  empty = empty;
  room = refl;
  timers = refl;
  ready = refl;
  placed = placed;
  calendars = calendars ∙ flagged (is_some_entry gone.def.calendar) refl;
  listed = without_its forgot;
}
  where
    tidy : job_slots.items ≡ filter job_slot_stays old.job_slots.items
    tidy = removed ∙ without gone went place old.job_slots.items others at

    flagged : (b : Bool) → is_some_entry gone.def.calendar ≡ b → cond b (list_any (λ e. is_some_entry e.def.calendar) job_slots.items) old.has_calendars ≡ some_calendar (map name job_slots.items)
    flagged true is = calendars-names job_slots.items
    flagged false is = sound.calendars ∙ calendar-still gone went is place old.job_slots.items others at ∙ ap (λ es. some_calendar (map name es)) (sym tidy)

    without_its : IsWithout gone old.triggers.items listed.items → AreListed listed.items (map name (filter job_slot_stays old.job_slots.items))
    without_its (inl dropped) =
        subst (λ ls. AreListed ls (map name (filter job_slot_stays old.job_slots.items))) (sym dropped) (listed-other gone went place old.job_slots.items sound.once others at old.triggers.items sound.listed)
    without_its (inr none) =
        subst (λ ls. AreListed ls (map name (filter job_slot_stays old.job_slots.items))) (sym none.1) (listed-still gone went none.0 place old.job_slots.items others at old.triggers.items sound.listed)

-- what holds of a table's fields does not speak of who may have gone
pub gone-sound : (t : Jobs) (gone : Gone) → IsSound t → IsSound (record t { gone = gone })
gone-sound t gone is = record {
  in_range = is.in_range;
  wall = is.wall;
  once = is.once;
  held = is.held;
  free = is.free;
  few = is.few;
  known = is.known;
  room = is.room;
  named = is.named;
  periods = is.periods;
  calendars = is.calendars;
  listed = is.listed;
  order = is.order;
}

-- nor, once the orders are dropped, of them
pub emptied-sound : (t : Jobs) (orders : Vec Order) → IsSound t → orders.items ≡ [] → vec_capacity orders ≡ vec_capacity t.orders → IsSound (record t { orders = orders })
emptied-sound t orders is empty same = record {
  in_range = is.in_range;
  wall = is.wall;
  once = is.once;
  held = is.held;
  free = is.free;
  few = is.few;
  known = ap (list_all (is_known (map name t.job_slots.items))) empty;
  room = let room = is.room in omega (arith, room, same);
  named = is.named;
  periods = is.periods;
  calendars = is.calendars;
  listed = is.listed;
  order = is.order;
}
