-- Once the jobs that an event reaches were visited, the table is as the event has to leave it.
use Rattle.std.proofs.Common.{◌≡◌, ℕ, ◌≤◌, ◌<◌, ◌++◌, Bool, true, false, not, List, Option, None, map, drop, length, sym, ap, ◌∙◌, subst, arith}
use Rattle.std.specs.List.{list_all, filter_map}
use Rattle.std.specs.Vec.{vec_len, vec_capacity, with_items}
use Rattle.std.proofs.lemmas.List.{length-map}
use Rattle.place_set.specs.Places.{has_place, place_room}
use Rattle.timer_heap.specs.Timers.{room}
use Rattle.history_model.specs.declared.TheConstants.{MAX_UP, MAX_WALL}
use Rattle.history_model.specs.MachineLaws.{AreInOrder}
use Rattle.history_model.specs.Step.{received, stays}
use Rattle.history_model.specs.Items.{Item}
use Rattle.history_model.specs.Described.{Described}
use Rattle.loaded_jobs.specs.Alike.{IsAlike}
use Rattle.loaded_jobs.specs.AskedJobs.{CanAsk, AsksReached}
use Rattle.loaded_jobs.specs.Counts.{counts, count_in, IsCounted}
use Rattle.loaded_jobs.specs.Receiving.{AreFor, Brings}
use Rattle.loaded_jobs.specs.Index.{ArePlaced, IsIndexed, AreTimed, AreAlone, HaveRoom, place_in}
use Rattle.loaded_jobs.specs.Leaving.{StayBut}
use Rattle.loaded_jobs.specs.Minutes.{some_calendar}
use Rattle.loaded_jobs.specs.Periods.{HavePeriods}
use Rattle.loaded_jobs.specs.JobSlots.{name, rows, gone}
use Rattle.loaded_jobs.specs.Sound.{AreHeld, AreFree}
use Rattle.loaded_jobs.specs.StandsFor.{KeepsJobs, numbered_all}
use Rattle.loaded_jobs.specs.Tables.{IsOnce, is_known, labels_in}
use Rattle.loaded_jobs.specs.Touched.{RestBut}
use Rattle.loaded_jobs.specs.Triggers.{AreListed}
use Rattle.loaded_jobs.specs.Visits.{CanVisit, VisitsTouched}
use Rattle.loaded_jobs.specs.declared.jobs.Jobs.{Jobs}
use Rattle.loaded_jobs.specs.declared.job_slot.JobSlot.{JobSlot}
use Rattle.loaded_jobs.proofs.ListLemmas.{lent-back}
use Rattle.loaded_jobs.proofs.PlacesLemmas.{rows-all}
use Rattle.loaded_jobs.proofs.KnownNumbersLemmas.{all-named}
use Rattle.loaded_jobs.proofs.HeldNumbersLemmas.{held-names}
use Rattle.loaded_jobs.proofs.AdvanceLemmas.{received-labelled, visits-counted, name-get}
use Rattle.loaded_jobs.proofs.IndexGrowthLemmas.{named-of}
use Rattle.loaded_jobs.proofs.TouchedLemmas.{AreMarked, spared-all, rest-all, spared-count, not-true}

module _ (receives : Described → Option Item) (reached : ℕ → Described → Bool) (none : (place : ℕ) (d : Described) → reached place d ≡ false → receives d ≡ None) (is_passed : ℕ → Bool) (old : Jobs) (can : CanAsk reached old)
    (marked : AreMarked reached is_passed 0 old.job_slots.items)
  where
    -- the jobs that are reached can be visited, if no other is
    pub can-visit : Brings receives old.reading old.reading → ((place : ℕ) → is_passed place ≡ false → place < length old.job_slots.items) →
        CanVisit receives old.reading old.reading is_passed old.job_slots.items old.index.timers
    can-visit brings inside = record {
      before_in_range = can.sound.in_range;
      in_range = can.sound.in_range;
      brings = brings;
      stay = can.stay;
      few = (let few = can.sound.few in let held = old.job_slots.ok.0 in omega (arith, few, held));
      inside = inside;
      spared = spared-all reached is_passed receives none old.reading 0 old.job_slots.items marked;
      once = can.sound.once;
      numbers = can.sound.named.space;
      timed = λ place job_slot there none. can.timed place job_slot there
          (not-true (is_passed place) (reached place job_slot.def) (subst (λ p. is_passed p ≡ not (reached p job_slot.def)) (omega arith) (marked place job_slot there)) none);
      alone = can.sound.named.alone;
    }

    module _ (new : Jobs) (after : List JobSlot)
        (visits : VisitsTouched receives old.reading old.reading is_passed old.job_slots.items after old.orders.items new.orders.items new.index.timers new.visited new.gone)
        (job_slots : new.job_slots ≡ with_items old.job_slots after) (places : new.index.places ≡ old.index.places) (numbers : new.numbers ≡ old.numbers) (triggers : new.triggers ≡ old.triggers)
        (calendars : new.has_calendars ≡ old.has_calendars) (alike : IsAlike old new)
        (empty : (place : ℕ) → has_place new.index.marked place ≡ false) (marks : place_room new.index.marked ≡ place_room old.index.marked)
        (space : room new.index.timers ≡ room old.index.timers) (capacity : vec_capacity new.orders ≡ vec_capacity old.orders)
      where
        back : new.job_slots.items ≡ after
        back =
            let one = length-map after name in
            let two = length-map old.job_slots.items name in
            let same = ap length visits.names in
            let held = old.job_slots.ok.0 in
            ap (λ v. v.items) job_slots ∙ lent-back after (drop (length after) old.job_slots.items) old.job_slots.len (omega (arith, one, two, same, held))

        names : map name new.job_slots.items ≡ map name old.job_slots.items
        names = ap (map name) back ∙ visits.names

        indexed : IsIndexed new
        indexed = record {
          timed = subst (λ r. AreTimed new.index.timers r.up new.job_slots.items) (sym alike.reading) (subst (AreTimed new.index.timers old.reading.up) (sym back) visits.timed);
          alone = subst (AreAlone new.index.timers) (sym names) visits.alone;
          space = subst (HaveRoom new.index.timers) (sym names) (λ number named. subst (λ r. number < r) (sym space) (can.sound.named.space number named));
          placed = subst (λ ps. ArePlaced ps.items new.job_slots.items) (sym places) (λ k e there. (
              let found = name-get old.job_slots.items new.job_slots.items k e names there in
              let own = can.placed k found.0 found.1 in
              (subst (λ n. n < length old.index.places.items) found.2 own.0, ap (place_in old.index.places.items) (sym found.2) ∙ own.1)
              ));
          empty = empty;
          marks =
              let one = length-map new.job_slots.items name in
              let two = length-map old.job_slots.items name in
              let same = ap length names in
              let fits = can.sound.named.marks in
              omega (arith, one, two, same, fits, marks);
        }

        pub asked : AsksReached receives reached old new
        asked = record {
          kept = λ jobs item for fine rests keeps. (
              let es = old.job_slots.items in
              let all = rows-all es can.stay in
              let idle = rest-all reached is_passed receives none old.reading item 0 es jobs marked (subst (λ rs. AreFor receives item rs jobs) all for) (subst (λ rs. KeepsJobs old.reading rs jobs) all keeps) (subst (λ rs. RestBut reached 0 rs jobs) all rests) in
              subst (λ xs. KeepsJobs old.reading (rows xs) (filter_map stays (received item jobs))) (sym back) (visits.kept jobs item for fine idle keeps)
              );
          orders = λ jobs item for fine rests keeps. (
              let es = old.job_slots.items in
              let all = rows-all es can.stay in
              let idle = rest-all reached is_passed receives none old.reading item 0 es jobs marked (subst (λ rs. AreFor receives item rs jobs) all for) (subst (λ rs. KeepsJobs old.reading rs jobs) all keeps) (subst (λ rs. RestBut reached 0 rs jobs) all rests) in
              received-labelled old.reading item (map name new.job_slots.items) es new.orders.items jobs names can.stay can.sound.once keeps
              (visits.orders jobs item for fine idle keeps ∙ ap (λ os. os ++ numbered_all (rows es) (received item jobs)) can.empty)
              );
          names = names;
          counted = subst (λ all. IsCounted (counts (rows old.job_slots.items)) (rows all) (gone all) new.visited) (sym back)
              (visits-counted is_passed old.job_slots.items after new.visited can.stay can.sound.once visits.visits visits.visited);
          spared = λ label others. (
              ap (λ xs. count_in (counts (rows xs)) label) back
              ∙ spared-count is_passed 0 old.job_slots.items after label can.stay visits.visits
              (λ k e there has. marked k e there ∙ ap not (subst (λ p. reached p e.def ≡ false) (omega arith) (others k e there has)))
              ∙ ap (λ rs. count_in (counts rs) label) (sym (rows-all old.job_slots.items can.stay))
              );
          triggers = triggers;
          whole = record {
            sound = record {
              in_range = subst (λ r. r.up ≤ MAX_UP) (sym alike.reading) can.sound.in_range;
              wall = subst (λ r. r.wall ≤ MAX_WALL) (sym alike.reading) can.sound.wall;
              once = subst IsOnce (sym names) can.sound.once;
              held = subst (λ ns. AreHeld ns new.job_slots.items) (sym numbers) (held-names old.job_slots.items new.job_slots.items old.numbers (sym names) can.sound.held);
              free = subst (λ ns. AreFree ns (map name new.job_slots.items)) (sym numbers) (subst (AreFree old.numbers) (sym names) can.sound.free);
              few = (let few = can.sound.few in let same = ap vec_len job_slots in omega (arith, few, same));
              known = subst (λ ns. list_all (is_known ns) new.orders.items ≡ true) (sym names)
                  (visits.known (map name old.job_slots.items) (all-named old.job_slots.items) (ap (list_all (is_known (map name old.job_slots.items))) can.empty));
              room = (let enough = can.sound.room in let same = ap vec_len job_slots in omega (arith, enough, same, capacity));
              named = named-of new.index new.reading.up new.job_slots.items indexed;
              periods = subst HavePeriods (sym names) can.sound.periods;
              calendars = calendars ∙ can.sound.calendars ∙ ap some_calendar (sym names);
              listed = subst (λ ts. AreListed ts.items (map name new.job_slots.items)) (sym triggers) (subst (AreListed old.triggers.items) (sym names) can.sound.listed);
              order = subst (λ ns. AreInOrder (labels_in ns)) (sym names) can.sound.order;
            };
            indexed = indexed;
            stay = subst (StayBut new.gone) (sym back) visits.stay;
          };
          alike = alike;
          room = record {
            jobs = ap vec_capacity job_slots;
            orders = capacity;
            settings = ap (λ held. vec_capacity held) alike.settings;
            numbers = ap (λ ns. ns.capacity) numbers;
            moments = space;
            marks = marks;
            places = ap (λ ps. length ps.items) places;
            triggers = ap vec_capacity triggers;
          };
        }
