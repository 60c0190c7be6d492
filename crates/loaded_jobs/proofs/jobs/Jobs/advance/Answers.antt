-- The places that are marked are those of the jobs that the clock reading touches.
use Rattle.std.proofs.Common.{◌≡◌, ◌≤◌, ◌<◌, ◌++◌, true, false, ◌||◌, map, drop, length, Option, Some, None, [], refl, ap, sym, subst, ◌∙◌, nat_lt, arith}
use Rattle.std.specs.Prelude.{Ok, is_some, slice_get}
use Rattle.std.specs.List.{list_all, filter_map}
use Rattle.std.specs.Vec.{with_items}
use Rattle.std.proofs.lemmas.Bool.Decides.{nat_tests}
use Rattle.history_model.specs.declared.Reading.{Reading as Moment}
use Rattle.history_model.specs.declared.Refusal.TheVariants.{ClockRefused}
use Rattle.history_model.specs.declared.TheConstants.{MAX_UP, MAX_WALL}
use Rattle.history_model.specs.Items.{Item, Read}
use Rattle.history_model.specs.Clock.{definition_of}
use Rattle.history_model.specs.Calendar.{crossed, calendar_fires}
use Rattle.history_model.specs.Refusals.{is_clock_refused}
use Rattle.history_model.specs.Acceptance.{refused_if}
use Rattle.history_model.specs.Machine.{State, Job, Tick}
use Rattle.history_model.specs.Step.{received, stays}
use Rattle.loaded_jobs.specs.Periods.{HavePeriods}
use Rattle.loaded_jobs.specs.Tables.{IsOnce, definition_of_number, is_known, labels_in}
use Rattle.loaded_jobs.specs.StandsFor.{KeepsJobs, KeepsState, numbered_all}
use Rattle.loaded_jobs.specs.Counts.{counts, count_in, IsCounted}
use Rattle.loaded_jobs.specs.Triggers.{AreListed, AreOrdered}
use Rattle.loaded_jobs.proofs.MinutesLemmas.{have-marks}
use Rattle.loaded_jobs.specs.JobSlots.{name, rows, gone, is_named, AllStay}
use Rattle.loaded_jobs.specs.Leaving.{StayBut}
use Rattle.loaded_jobs.specs.Index.{AreTimed, AreAlone, ArePlaced, HaveRoom, place_in}
use Rattle.place_set.specs.Places.{has_place}
use Rattle.loaded_jobs.specs.Marking.{HavePlaces}
use Rattle.loaded_jobs.specs.Minutes.{has_calendars, some_calendar}
use Rattle.loaded_jobs.specs.TableOutcomes.{plain_outcome}
use Rattle.loaded_jobs.specs.Sound.{seen_table, AreFree}
use Rattle.loaded_jobs.specs.Receiving.{AreFor, IsAccepted}
use Rattle.loaded_jobs.specs.Visiting.{is_spared, AreSpared, AreAtRest, AreVisitedOnce}
use Rattle.loaded_jobs.specs.AffectedJobs.{item_for}
use Rattle.loaded_jobs.specs.declared.job_slot.AffectedJobs.TheVariants as affected
use Rattle.loaded_jobs.specs.declared.jobs.Jobs.{Jobs}
use Rattle.loaded_jobs.proofs.ListLemmas.{lent-back}
use Rattle.loaded_jobs.proofs.PlacesLemmas.{rows-all}
use Rattle.loaded_jobs.proofs.ReceivingLemmas.{reading-brings}
use Rattle.loaded_jobs.proofs.KnownNumbersLemmas.{all-named}
use Rattle.loaded_jobs.proofs.HeldNumbersLemmas.{held-names}
use Rattle.loaded_jobs.proofs.OutcomesLemmas.{IsDone, accepted}
use Rattle.loaded_jobs.proofs.EventsLemmas.{own-jobs, readings, readings-fine}
use Rattle.loaded_jobs.proofs.AdvanceLemmas.{have-places, is-spare, spare-timed, alone-still, mark-at, mark-reason, are-marked, spared-all, rest-all, received-labelled, visits-counted, name-get}
use Rattle.loaded_jobs.proofs.NumbersLemmas.{names-begun}
use Rattle.loaded_jobs.proofs.IndexGrowthLemmas.{named-of}
use Rattle.loaded_jobs.proofs.TouchingLemmas.{spared-count, marks-affected}
use Rattle.history_model.specs.MachineLaws.{AreInOrder}
use Rattle.history_model.proofs.BooleanLemmas.{or-false-first, or-false-second, not-false}
use Rattle.loaded_jobs.proofs.jobs.Jobs.advance.Goals as goal

-- an accepted reading does not fall, and keeps its bounds
later : (before at : Moment) → is_clock_refused before at ≡ false → (before.up ≤ at.up) × (at.up ≤ MAX_UP) × (at.wall ≤ MAX_WALL)
later before at fine =
    let third = or-false-second (nat_lt at.up before.up || nat_lt MAX_UP at.up) (nat_lt MAX_WALL at.wall) fine in
    let two = or-false-first (nat_lt at.up before.up || nat_lt MAX_UP at.up) (nat_lt MAX_WALL at.wall) fine in
    let first = or-false-first (nat_lt at.up before.up) (nat_lt MAX_UP at.up) two in
    let second = or-false-second (nat_lt at.up before.up) (nat_lt MAX_UP at.up) two in
    (grind (arith, nat_tests, first), grind (arith, nat_tests, second), grind (arith, nat_tests, third))

pub mark_due-requires-clause-places : goal.mark_due-requires-clause-places
mark_due-requires-clause-places c =
    let old = c.args.self.now in
    subst (λ ps. HavePlaces old.index.timers ps old.index.marked) (sym c.deref.ensures.value)
    (have-places old.job_slots.items old.index.timers old.index.places.items old.index.marked c.requires.begun.whole.indexed.alone c.requires.begun.whole.indexed.placed c.requires.begun.whole.indexed.marks)

pub mark_minutes-requires-clause-order : goal.mark_minutes-requires-clause-order
mark_minutes-requires-clause-order c = subst AreOrdered (sym c.deref-2.ensures.value) c.requires.begun.whole.sound.listed.order

pub mark_minutes-requires-clause-places : goal.mark_minutes-requires-clause-places
mark_minutes-requires-clause-places c =
    let fits = c.requires.begun.whole.indexed.marks in
    let same = c.mark_due.ensures.room in
    have-marks c.deref-3.result.now c.args.self.now.job_slots.items c.deref-2.result.now c.mark_due.new.ready (subst (λ ps. ArePlaced ps c.args.self.now.job_slots.items) (sym c.deref-3.ensures.value) c.requires.begun.whole.indexed.placed)
    (subst (λ ls. AreListed ls (map name c.args.self.now.job_slots.items)) (sym c.deref-2.ensures.value) c.requires.begun.whole.sound.listed) (omega (arith, fits, same))

pub visit_ready-visited-requires-clause-can : goal.visit_ready-visited-requires-clause-can
visit_ready-visited-requires-clause-can c =
    let old = c.args.self.now in
    let indexed = c.requires.begun.whole.indexed in
    let rises = later old.reading c.args.at c.requires.accepted in
    let lent = c.deref_mut.ensures.value in
    let m = are-marked old.job_slots.items c.args.self.now.job_slots.items c.args.at c.args.minutes.now _ old.index.timers c.mark_due.new.timers old.index.places.items c.deref.result.now c.mark_due.new.ready c.mark_minutes.new.ready
    c.deref.ensures.value refl c.mark_due.ensures.marked c.mark_due.ensures.marks (c.mark_minutes.ensures.spared c.args.self.now.job_slots.items (subst (λ ls. AreListed ls (map name c.args.self.now.job_slots.items)) (sym c.deref-2.ensures.value) c.requires.begun.whole.sound.listed) (subst (λ ps. ArePlaced ps c.args.self.now.job_slots.items) (sym c.deref-3.ensures.value) c.requires.begun.whole.indexed.placed)) (c.mark_minutes.ensures.marks c.args.self.now.job_slots.items (subst (λ ls. AreListed ls (map name c.args.self.now.job_slots.items)) (sym c.deref-2.ensures.value) c.requires.begun.whole.sound.listed) (subst (λ ps. ArePlaced ps c.args.self.now.job_slots.items) (sym c.deref-3.ensures.value) c.requires.begun.whole.indexed.placed))
    (let top = (later old.reading c.args.at c.requires.accepted).1 in omega (arith, top)) in
    record {
      before_in_range = c.requires.begun.whole.sound.in_range;
      in_range = rises.1;
      brings = reading-brings old.reading c.args.at c.args.minutes;
      stay = subst AllStay (sym lent) c.requires.begun.stay;
      few = (let few = c.requires.begun.whole.sound.few in let long = ap length lent in omega (arith, few, long));
      once = subst (λ xs. IsOnce (map name xs)) (sym lent) c.requires.begun.whole.sound.once;
      numbers = λ number named. subst (λ r. number < r) (sym c.mark_due.ensures.timers) (indexed.space number (ap (λ xs. is_some (definition_of_number (map name xs) number)) (sym lent) ∙ named));
      inside =
          λ place there. subst (λ xs. place < length xs) (sym c.deref_mut.ensures.value)
          (mark-at old.job_slots.items c.requires.begun.stay old.reading c.args.at c.args.minutes.now _ old.index.timers c.mark_due.new.timers old.index.places.items c.mark_due.new.ready c.mark_minutes.new.ready
          indexed.timed indexed.alone indexed.placed m place (not-false (has_place c.mark_minutes.new.ready place) there));
      spared =
          subst (AreSpared (is_spared c.mark_minutes.new.ready) old.reading (item_for (affected.Reading c.args.at c.args.minutes)) 0) (sym c.deref_mut.ensures.value)
          (spared-all old.reading c.args.at c.args.minutes (later old.reading c.args.at c.requires.accepted).0 c.mark_minutes.new.ready 0 old.job_slots.items
          (λ k e there none. is-spare old.job_slots.items c.requires.begun.stay old.reading c.args.at c.args.minutes.now _ old.index.timers c.mark_due.new.timers old.index.places.items c.mark_due.new.ready c.mark_minutes.new.ready
          indexed.timed indexed.alone indexed.placed m k e there (subst (λ p. is_spared c.mark_minutes.new.ready p ≡ true) (omega arith) none)));
      timed =
          λ k e there none. spare-timed old.job_slots.items c.requires.begun.stay old.reading c.args.at c.args.minutes.now _ old.index.timers c.mark_due.new.timers old.index.places.items c.mark_due.new.ready c.mark_minutes.new.ready
          indexed.timed indexed.alone indexed.placed m (later old.reading c.args.at c.requires.accepted).0 k e (ap (λ xs. slice_get xs k) (sym c.deref_mut.ensures.value) ∙ there) none;
      alone =
          subst (λ xs. AreAlone c.mark_due.new.timers (map name xs)) (sym c.deref_mut.ensures.value)
          (alone-still old.job_slots.items c.requires.begun.stay old.reading c.args.at c.args.minutes.now _ old.index.timers c.mark_due.new.timers old.index.places.items c.mark_due.new.ready c.mark_minutes.new.ready
          indexed.timed indexed.alone indexed.placed m);
    }

pub returns-clause-counted : goal.returns-clause-counted
returns-clause-counted c =
    let es = c.args.self.now.job_slots.items in
    let after = c.visit_ready-visited.new.job_slots in
    let whole = lent-back after (drop (length after) es) c.args.self.now.job_slots.len (omega arith) in
    subst (λ all. IsCounted (counts (rows es)) (rows all) (gone all) c.visit_ready-visited.result.0) (sym whole)
    (visits-counted (is_spared c.mark_minutes.new.ready) es after c.visit_ready-visited.result.0 c.requires.begun.stay c.requires.begun.whole.sound.once
    (subst (λ all. AreVisitedOnce (is_spared c.mark_minutes.new.ready) 0 all after) c.deref_mut.ensures.value c.visit_ready-visited.ensures.visits.visits) c.visit_ready-visited.ensures.visits.visited)

pub returns-clause-indexed : goal.returns-clause-indexed
returns-clause-indexed c =
    let old = c.args.self.now in
    let es = old.job_slots.items in
    let after = c.visit_ready-visited.new.job_slots in
    let whole = lent-back after (drop (length after) es) old.job_slots.len (omega arith) in
    let names = ap (map name) whole ∙ c.visit_ready-visited.ensures.visits.names ∙ ap (map name) c.deref_mut.ensures.value in
    let indexed = c.requires.begun.whole.indexed in
    let long : length after ≡ length es = omega arith in
    let fits = indexed.marks in
    record {
      timed = subst (AreTimed c.visit_ready-visited.new.timers c.args.at.up) (sym whole) c.visit_ready-visited.ensures.visits.timed;
      alone = subst (AreAlone c.visit_ready-visited.new.timers) (ap (map name) c.deref_mut.ensures.value ∙ sym names) c.visit_ready-visited.ensures.visits.alone;
      space = subst (HaveRoom c.visit_ready-visited.new.timers) (sym names)
          (λ number named. subst (λ r. number < r) (sym (c.visit_ready-visited.ensures.unmarked.space ∙ c.mark_due.ensures.timers)) (indexed.space number named));
      placed = λ k e there. (let found = name-get es _ k e names there in let own = indexed.placed k found.0 found.1 in
          (subst (λ n. n < length old.index.places.items) found.2 own.0, ap (place_in old.index.places.items) (sym found.2) ∙ own.1));
      empty = c.visit_ready-visited.ensures.unmarked.done;
      marks =
          let count : length _ ≡ length after = ap length whole in
          let spaces = c.visit_ready-visited.ensures.unmarked.marks ∙ c.mark_minutes.ensures.room ∙ c.mark_due.ensures.room in
          omega (arith, count, long, fits, spaces);
    }

pub returns-clause-sound : goal.returns-clause-sound
returns-clause-sound c =
    let es = c.args.self.now.job_slots.items in
    let after = c.visit_ready-visited.new.job_slots in
    let whole = lent-back after (drop (length after) es) c.args.self.now.job_slots.len (omega arith) in
    let names = ap (map name) whole ∙ c.visit_ready-visited.ensures.visits.names ∙ ap (map name) c.deref_mut.ensures.value in
    record {
      in_range = (later c.args.self.now.reading c.args.at c.requires.accepted).1;
      wall = (later c.args.self.now.reading c.args.at c.requires.accepted).2;
      once = subst IsOnce (sym names) c.requires.begun.whole.sound.once;
      held = held-names _ _ c.args.self.now.numbers (sym names) c.requires.begun.whole.sound.held;
      free = subst (AreFree c.args.self.now.numbers) (sym names) c.requires.begun.whole.sound.free;
      known = subst (λ ns. list_all (is_known ns) c.visit_ready-visited.new.orders.items ≡ true) (sym names)
          (c.visit_ready-visited.ensures.visits.known (map name es) (ap (list_all (is_named (map name es))) c.deref_mut.ensures.value ∙ all-named es)
          (ap (list_all (is_known (map name es))) c.requires.begun.empty));
      few = (let few = c.requires.begun.whole.sound.few in omega (arith, few));
      room = (let enough = c.requires.begun.whole.sound.room in omega (arith, enough));
      named = named-of _ _ _ (returns-clause-indexed c);
      periods = subst HavePeriods (sym names) c.requires.begun.whole.sound.periods;
      calendars = c.requires.begun.whole.sound.calendars ∙ ap some_calendar (sym names);
      listed = subst (AreListed c.args.self.now.triggers.items) (sym names) c.requires.begun.whole.sound.listed;
      order = subst (λ ns. AreInOrder (labels_in ns)) (sym names) c.requires.begun.whole.sound.order;
    }

pub returns-clause-names : goal.returns-clause-names
returns-clause-names c =
    let es = c.args.self.now.job_slots.items in
    let after = c.visit_ready-visited.new.job_slots in
    let whole = lent-back after (drop (length after) es) c.args.self.now.job_slots.len (omega arith) in
    ap (map name) whole ∙ c.visit_ready-visited.ensures.visits.names ∙ ap (map name) c.deref_mut.ensures.value
    ∙ names-begun es es c.requires.begun.stay refl

-- the table that is left
abbrev going-as : goal.After-at-1 → Jobs
going-as c = record c.args.self.now {
  reading = c.args.at;
  job_slots = with_items c.args.self.now.job_slots c.visit_ready-visited.new.job_slots;
  orders = c.visit_ready-visited.new.orders;
  visited = c.visit_ready-visited.result.0;
  index = record { timers = c.visit_ready-visited.new.timers; marked = c.visit_ready-visited.new.ready; places = c.args.self.now.index.places };
}

-- the machine's next state, and its outcome
done : (c : goal.After-at-1) (s : State) → KeepsState (seen_table c.args.self.now) s → IsDone s (Tick c.args.at) (seen_table (going-as c)) (plain_outcome (Ok tt) (seen_table (going-as c)))
done c s keeps =
    let old = c.args.self.now in
    let at = c.args.at in
    let es = old.job_slots.items in
    let after = c.visit_ready-visited.new.job_slots in
    let ready = c.mark_minutes.new.ready in
    let whole = lent-back after (drop (length after) es) old.job_slots.len (omega arith) in
    let names = ap (map name) whole ∙ c.visit_ready-visited.ensures.visits.names ∙ ap (map name) c.deref_mut.ensures.value in
    let indexed = c.requires.begun.whole.indexed in
    let m = are-marked es c.args.self.now.job_slots.items at c.args.minutes.now _ old.index.timers c.mark_due.new.timers old.index.places.items c.deref.result.now c.mark_due.new.ready ready
    c.deref.ensures.value refl c.mark_due.ensures.marked c.mark_due.ensures.marks (c.mark_minutes.ensures.spared c.args.self.now.job_slots.items (subst (λ ls. AreListed ls (map name c.args.self.now.job_slots.items)) (sym c.deref-2.ensures.value) c.requires.begun.whole.sound.listed) (subst (λ ps. ArePlaced ps c.args.self.now.job_slots.items) (sym c.deref-3.ensures.value) c.requires.begun.whole.indexed.placed)) (c.mark_minutes.ensures.marks c.args.self.now.job_slots.items (subst (λ ls. AreListed ls (map name c.args.self.now.job_slots.items)) (sym c.deref-2.ensures.value) c.requires.begun.whole.sound.listed) (subst (λ ps. ArePlaced ps c.args.self.now.job_slots.items) (sym c.deref-3.ensures.value) c.requires.begun.whole.indexed.placed))
    (let top = (later old.reading at c.requires.accepted).1 in omega (arith, top)) in
    let item : Job → Option Item = λ job. Some (Read at (calendar_fires s.zone (definition_of job.past).calendar s.reading.wall at.wall)) in
    let own : KeepsJobs old.reading (rows es) s.jobs = own-jobs old s keeps in
    let crosses : has_calendars (rows es) ≡ true → c.args.minutes.now ≡ map s.zone (crossed s.reading.wall at.wall) =
    λ some. c.requires.minutes some ∙ (λ i. map (keeps.zone i) (crossed (keeps.reading i).wall at.wall)) in
    let for : AreFor (item_for (affected.Reading at c.args.minutes)) item (rows es) s.jobs = readings s.zone s.reading at c.args.minutes (rows es) s.jobs crosses keeps.jobs in
    let fine : IsAccepted old.reading item =
    readings-fine old.reading at (λ job. calendar_fires s.zone (definition_of job.past).calendar s.reading.wall at.wall) c.requires.accepted in
    let rests : AreAtRest (is_spared ready) 0 (received item s.jobs) =
    rest-all old.reading at c.args.minutes (later old.reading at c.requires.accepted).0 ready item fine 0 es s.jobs
    (λ k e there none. is-spare es c.requires.begun.stay old.reading at c.args.minutes.now _ old.index.timers c.mark_due.new.timers old.index.places.items c.mark_due.new.ready ready
    indexed.timed indexed.alone indexed.placed m k e there (subst (λ p. is_spared ready p ≡ true) (omega arith) none))
    (subst (λ rs. AreFor (item_for (affected.Reading at c.args.minutes)) item rs s.jobs) (rows-all es c.requires.begun.stay) for) (subst (λ rs. KeepsJobs old.reading rs s.jobs) (rows-all es c.requires.begun.stay) own) keeps.rests in
    let lent = c.deref_mut.ensures.value in
    let for_lent = subst (λ xs. AreFor (item_for (affected.Reading at c.args.minutes)) item (rows xs) s.jobs) (sym lent) for in
    let own_lent = subst (λ xs. KeepsJobs old.reading (rows xs) s.jobs) (sym lent) own in
    let kept : KeepsJobs at (rows after) (filter_map stays (received item s.jobs)) = c.visit_ready-visited.ensures.visits.kept s.jobs item for_lent fine rests own_lent in
    let orders : c.visit_ready-visited.new.orders.items ≡ numbered_all (rows es) (received item s.jobs) =
    c.visit_ready-visited.ensures.visits.orders s.jobs item for_lent fine rests own_lent ∙ (λ i. c.requires.begun.empty i ++ numbered_all (rows (lent i)) (received item s.jobs)) in
    accepted (seen_table old) (seen_table (going-as c)) s (Tick at) [] c.requires.begun.whole.sound.in_range keeps
    (ap (λ b. refused_if b ClockRefused None) (ap (λ r. is_clock_refused r at) (sym keeps.reading) ∙ c.requires.accepted))
    (record {
      reading = refl;
      zone = keeps.zone;
      settings = keeps.settings;
      shutdown = keeps.shutdown;
      jobs = subst (λ xs. KeepsJobs at (rows xs) (filter_map stays (received item s.jobs))) (sym whole) kept;
      orders = received-labelled old.reading item _ es c.visit_ready-visited.new.orders.items s.jobs names c.requires.begun.stay c.requires.begun.whole.sound.once own orders;
    }) refl

pub returns-clause-answer : goal.returns-clause-answer
returns-clause-answer c = λ s keeps. (done c s keeps).outcome

pub returns-clause-kept : goal.returns-clause-kept
returns-clause-kept c = λ s keeps. (done c s keeps).kept

pub returns-clause-spared : goal.returns-clause-spared
returns-clause-spared c = λ s keeps label past found none.
    let old = c.args.self.now in
    let es = old.job_slots.items in
    let after = c.visit_ready-visited.new.job_slots in
    let whole = lent-back after (drop (length after) es) old.job_slots.len (omega arith) in
    let own : KeepsJobs old.reading (rows es) s.jobs = own-jobs old s keeps in
    let indexed = c.requires.begun.whole.indexed in
    let m = are-marked es c.args.self.now.job_slots.items c.args.at c.args.minutes.now _ old.index.timers c.mark_due.new.timers old.index.places.items c.deref.result.now c.mark_due.new.ready c.mark_minutes.new.ready
    c.deref.ensures.value refl c.mark_due.ensures.marked c.mark_due.ensures.marks (c.mark_minutes.ensures.spared c.args.self.now.job_slots.items (subst (λ ls. AreListed ls (map name c.args.self.now.job_slots.items)) (sym c.deref-2.ensures.value) c.requires.begun.whole.sound.listed) (subst (λ ps. ArePlaced ps c.args.self.now.job_slots.items) (sym c.deref-3.ensures.value) c.requires.begun.whole.indexed.placed)) (c.mark_minutes.ensures.marks c.args.self.now.job_slots.items (subst (λ ls. AreListed ls (map name c.args.self.now.job_slots.items)) (sym c.deref-2.ensures.value) c.requires.begun.whole.sound.listed) (subst (λ ps. ArePlaced ps c.args.self.now.job_slots.items) (sym c.deref-3.ensures.value) c.requires.begun.whole.indexed.placed))
    (let top = (later old.reading c.args.at c.requires.accepted).1 in omega (arith, top)) in
    let crosses : has_calendars (rows es) ≡ true → c.args.minutes.now ≡ map s.zone (crossed old.reading.wall c.args.at.wall) =
    λ some. c.requires.minutes some ∙ (λ i. map (keeps.zone i) (crossed old.reading.wall c.args.at.wall)) in
    let visits = subst (λ all. AreVisitedOnce (is_spared c.mark_minutes.new.ready) 0 all after) c.deref_mut.ensures.value c.visit_ready-visited.ensures.visits.visits in
    ap (λ xs. count_in (counts (rows xs)) label) whole
    ∙ spared-count s.zone old.reading c.args.at c.mark_minutes.new.ready 0 es after s.jobs label past c.requires.begun.stay visits
    (subst (λ rs. KeepsJobs old.reading rs s.jobs) (rows-all es c.requires.begun.stay) own)
    (marks-affected s.zone old.reading c.args.at c.args.minutes.now c.mark_minutes.new.ready 0 es s.jobs c.requires.begun.whole.sound.periods
    (λ k e there marked. mark-reason es c.requires.begun.stay old.reading c.args.at c.args.minutes.now _ old.index.timers c.mark_due.new.timers old.index.places.items c.mark_due.new.ready c.mark_minutes.new.ready
    indexed.timed indexed.alone indexed.placed m (omega arith) k e there (subst (λ p. is_spared c.mark_minutes.new.ready p ≡ false) (omega arith) marked))
    (λ some. crosses (ap has_calendars (rows-all es c.requires.begun.stay) ∙ some)) (subst (λ rs. KeepsJobs old.reading rs s.jobs) (rows-all es c.requires.begun.stay) own))
    found none
    ∙ ap (λ rs. count_in (counts rs) label) (sym (rows-all es c.requires.begun.stay))

pub returns-clause-stay : goal.returns-clause-stay
returns-clause-stay c =
    let es = c.args.self.now.job_slots.items in
    let after = c.visit_ready-visited.new.job_slots in
    let whole = lent-back after (drop (length after) es) c.args.self.now.job_slots.len (omega arith) in
    subst (StayBut c.visit_ready-visited.result.1) (sym whole) c.visit_ready-visited.ensures.visits.stay
