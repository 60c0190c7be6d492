-- The new job is among the others, which rest, and the label's setting before the others.
use Rattle.std.proofs.Common.{◌≡◌, ℕ, List, ◌≤◌, ◌<◌, ◌+◌, suc, Some, map, refl, ap, sym, subst, ◌∙◌, [], ◌∷◌, drop, length, arith}
use Rattle.std.specs.Prelude.{is_some, slice_get, Ok}
use Rattle.std.specs.List.{filter, position, AllByRecursion}
use Rattle.std.specs.Vec.{with_items, vec_len}
use Rattle.calendar_due.specs.ZoneRules.{minute_at}
use Rattle.history_model.specs.Search.{first}
use Rattle.history_model.specs.Labels.{Label}
use Rattle.history_model.specs.Items.{Loaded}
use Rattle.history_model.specs.FactsOfPast.{Keeps}
use Rattle.history_model.specs.Machine.{Job, Load, sets}
use Rattle.history_model.specs.Step.{taken, with_job}
use Rattle.history_model.specs.Texts.{load_text}
use Rattle.history_model.specs.Definitions.{definition, given}
use Rattle.history_model.specs.MachineLaws.{AreInOrder}
use Rattle.loaded_jobs.specs.Tables.{IsOnce, Row, definition_of_number, labels_in}
use Rattle.loaded_jobs.specs.StandsFor.{KeepsJob, KeepsJobs}
use Rattle.loaded_jobs.specs.JobSlots.{row, name, rows, AllStay, is_above, place_for}
use Rattle.loaded_jobs.specs.Counts.{counts, count_in}
use Rattle.loaded_jobs.specs.Index.{ArePlaced, place_in}
use Rattle.loaded_jobs.specs.Sound.{seen_table}
use Rattle.loaded_jobs.specs.Touched.{RestBut}
use Rattle.loaded_jobs.specs.AffectedJobs.{is_at}
use Rattle.loaded_jobs.specs.declared.jobs.Jobs.{Jobs}
use Rattle.loaded_jobs.specs.declared.job_slot.JobSlot.{JobSlot}
use Rattle.loaded_jobs.proofs.CountsLemmas.{counted-from, counts-placed}
use Rattle.loaded_jobs.proofs.NewJobLemmas.{place-low, stood-before, stood-behind, more-job_slots, new-apart, rest-entered, entered-sound, replaced-sound, timed-entered}
use Rattle.loaded_jobs.proofs.EnteringLemmas.{stay-names, stay-placed, entered-kept}
use Rattle.loaded_jobs.proofs.EventsLemmas.{own-jobs, IsHead}
use Rattle.loaded_jobs.proofs.ListLemmas.{lent-back}
use Rattle.loaded_jobs.proofs.NumbersLemmas.{numbered, named-placed}
use Rattle.loaded_jobs.proofs.PlacesLemmas.{rows-all}
use Rattle.loaded_jobs.proofs.SettingLemmas.{settings-after}
use Rattle.loaded_jobs.proofs.OutcomesLemmas.{accepted}
use Rattle.loaded_jobs.proofs.TouchedLemmas.{received-already}
use Rattle.loaded_jobs.proofs.jobs.Jobs.load.Goals as goal

-- the place that was looked for is that of the label among all slots
at-place : (es seen : List JobSlot) (label named : Label) (place : ℕ) → place ≡ place_for named seen → named ≡ label → seen ≡ es → place ≡ place_for label es
at-place es seen label named place is text same = is ∙ (λ i. place_for (text i) (same i))

pub place_before-place-requires : goal.place_before-place-requires
place_before-place-requires c = subst (λ es. AreInOrder (labels_in (map name es))) (sym c.deref.ensures.value) c.requires.sound.sound.order

pub enter-requires-clause-place : goal.enter-requires-clause-place
enter-requires-clause-place c = at-place c.args.self.now.job_slots.items _ c.args.ready.job_slot.def.label _ _ c.place_before-place.ensures (c.label.ensures ∙ ap (λ e. e.def.label) c.lent.ensures) c.deref.ensures.value

pub make_way-requires-clause-once : goal.make_way-requires-clause-once
make_way-requires-clause-once c =
    let e = c.enter.ensures in
    subst (λ all. IsOnce (map name all)) (sym c.deref-2.ensures.value)
    (entered-sound c.args.self.now c.enter.new.self c.args.ready c.requires.sound.sound c.requires.ready e.alike.reading e.job_slots e.count e.orders e.vacant e.numbers e.index e.period e.calendars e.exact e.listed).once

pub make_way-requires-clause-fits : goal.make_way-requires-clause-fits
make_way-requires-clause-fits c = λ number named.
    let e = c.enter.ensures in
    subst (λ ps. number < length ps) (sym c.deref_mut.ensures.value)
    ((entered-sound c.args.self.now c.enter.new.self c.args.ready c.requires.sound.sound c.requires.ready e.alike.reading e.job_slots e.count e.orders e.vacant e.numbers e.index e.period e.calendars e.exact e.listed).named.fits number
    (ap (λ all. is_some (definition_of_number (map name all) number)) (sym c.deref-2.ensures.value) ∙ named))

pub make_way-requires-clause-inside : goal.make_way-requires-clause-inside
make_way-requires-clause-inside c =
    let es = c.args.self.now.job_slots.items in
    let new = c.args.ready.job_slot in
    let k = place_for new.def.label es in
    let low : k ≤ length es = place-low (is_above new.def.label) es (position (is_above new.def.label) es) refl in
    let more : length c.deref-2.result.now ≡ suc (length es) = ap length (c.deref-2.ensures.value ∙ c.enter.ensures.job_slots) ∙ more-job_slots new es k in
    let at : c.place_before-place.result ≡ k = (at-place c.args.self.now.job_slots.items _ c.args.ready.job_slot.def.label _ _ c.place_before-place.ensures (c.label.ensures ∙ ap (λ e. e.def.label) c.lent.ensures) c.deref.ensures.value) in
    omega (arith, low, more, at)

pub make_way-requires-clause-before : goal.make_way-requires-clause-before
make_way-requires-clause-before c = λ k e there low.
    let es = c.args.self.now.job_slots.items in
    let new = c.args.ready.job_slot in
    let p = place_for new.def.label es in
    let long : p ≤ length es = place-low (is_above new.def.label) es (position (is_above new.def.label) es) refl in
    let at : c.place_before-place.result ≡ p = (at-place c.args.self.now.job_slots.items _ c.args.ready.job_slot.def.label _ _ c.place_before-place.ensures (c.label.ensures ∙ ap (λ e. e.def.label) c.lent.ensures) c.deref.ensures.value) in
    let was = stood-before new es p k e (ap (λ xs. slice_get xs k) (sym (c.deref-2.ensures.value ∙ c.enter.ensures.job_slots)) ∙ there) long (subst (λ n. k < n) at low) in
    ap (λ ps. place_in ps e.number) (c.deref_mut.ensures.value ∙ ap (λ i. i.places.items) c.enter.ensures.index) ∙ (c.requires.sound.indexed.placed k e was).1

pub make_way-requires-clause-behind : goal.make_way-requires-clause-behind
make_way-requires-clause-behind c = λ k e there high.
    let es = c.args.self.now.job_slots.items in
    let new = c.args.ready.job_slot in
    let p = place_for new.def.label es in
    let long : p ≤ length es = place-low (is_above new.def.label) es (position (is_above new.def.label) es) refl in
    let at : c.place_before-place.result ≡ p = (at-place c.args.self.now.job_slots.items _ c.args.ready.job_slot.def.label _ _ c.place_before-place.ensures (c.label.ensures ∙ ap (λ e. e.def.label) c.lent.ensures) c.deref.ensures.value) in
    let was = stood-behind new es p k e (ap (λ xs. slice_get xs k) (sym (c.deref-2.ensures.value ∙ c.enter.ensures.job_slots)) ∙ there) long (subst (λ n. n < k) at high) in
    let over = was.2 in
    let next : was.0 + 1 ≡ k = omega (arith, over) in
    ap (λ n. n + 1) (ap (λ ps. place_in ps e.number) (c.deref_mut.ensures.value ∙ ap (λ i. i.places.items) c.enter.ensures.index) ∙ (c.requires.sound.indexed.placed was.0 e was.1).1) ∙ next

pub ask_at-requires-clause-can : goal.ask_at-requires-clause-can
ask_at-requires-clause-can c =
    record {
      sound = (
          let e = c.enter.ensures in
          let t = c.enter.new.self in
          let after = c.make_way.new.places in
          let lent = lent-back after (drop (length after) t.index.places.items) t.index.places.len (omega arith) in
          replaced-sound t (with_items t.index.places after) (ap length lent ∙ c.make_way.ensures.length ∙ ap length c.deref_mut.ensures.value)
          (entered-sound c.args.self.now t c.args.ready c.requires.sound.sound c.requires.ready e.alike.reading e.job_slots e.count e.orders e.vacant e.numbers e.index e.period e.calendars e.exact e.listed)
          );
      stay = (
          let es = c.args.self.now.job_slots.items in
          let new = c.args.ready.job_slot in
          subst AllStay (sym c.enter.ensures.job_slots) (stay-placed new es (place_for new.def.label es) c.requires.ready.stays (stay-names es c.requires.ready.tidy))
          );
      empty = (
          ap (λ orders. orders.items) c.enter.ensures.orders ∙ c.requires.ready.empty
          );
      placed = (
          let t = c.enter.new.self in
          let after = c.make_way.new.places in
          let lent = lent-back after (drop (length after) t.index.places.items) t.index.places.len (omega arith) in
          subst (λ ps. ArePlaced ps t.job_slots.items) (sym lent) (subst (ArePlaced after) c.deref-2.ensures.value c.make_way.ensures.placed)
          );
      timed = (
          let old = c.args.self.now in
          let es = old.job_slots.items in
          let new = c.args.ready.job_slot in
          let t = c.enter.new.self in
          timed-entered old (record t { index = record t.index { places = with_items t.index.places c.make_way.new.places } }) new (place_for new.def.label es) c.place_before-place.result c.enter.ensures.job_slots
          (at-place c.args.self.now.job_slots.items _ c.args.ready.job_slot.def.label _ _ c.place_before-place.ensures (c.label.ensures ∙ ap (λ e. e.def.label) c.lent.ensures) c.deref.ensures.value) (place-low (is_above new.def.label) es (position (is_above new.def.label) es) refl) c.requires.sound.indexed
          (ap (λ i. i.timers) c.enter.ensures.index) c.enter.ensures.alike.reading
          );
    }

pub ask_at-requires-clause-inside : goal.ask_at-requires-clause-inside
ask_at-requires-clause-inside c =
    let es = c.args.self.now.job_slots.items in
    let new = c.args.ready.job_slot in
    let k = place_for new.def.label es in
    let low : k ≤ length es = place-low (is_above new.def.label) es (position (is_above new.def.label) es) refl in
    let more : length c.enter.new.self.job_slots.items ≡ suc (length es) = ap length c.enter.ensures.job_slots ∙ more-job_slots new es k in
    let at : c.place_before-place.result ≡ k = (at-place c.args.self.now.job_slots.items _ c.args.ready.job_slot.def.label _ _ c.place_before-place.ensures (c.label.ensures ∙ ap (λ e. e.def.label) c.lent.ensures) c.deref.ensures.value) in
    omega (arith, low, more, at)

pub returns-clause-goes : goal.returns-clause-goes
returns-clause-goes c = record {
  kept = λ s force bind store keeps none.
      let old = c.args.self.now in
      let es = old.job_slots.items in
      let new = c.args.ready.job_slot in
      let label = new.def.label in
      let e = Load (Ok (given new.def)) (is_some c.args.ready.setting) force bind store in
      let t : Jobs = record c.enter.new.self { index = record c.enter.new.self.index { places = with_items c.enter.new.self.index.places c.make_way.new.places } } in
      let alike = c.enter.ensures.alike in
      let job : Job = record { label = label; past = Loaded (definition new.def) s.reading ∷ [] } in
      let this : KeepsJob old.reading (row new) job = record {
        label = refl;
        definition = refl;
        keeps = subst (λ at. Keeps new.core.facts (Loaded (definition new.def) at ∷ [])) keeps.reading c.requires.ready.loaded;
        present = keeps.reading;
      } in
      let stay = stay-names es c.requires.ready.tidy in
      let before = own-jobs old s keeps in
      let jobs = entered-kept old.reading new job this es s.jobs stay c.requires.ready.stays before in
      let here : KeepsJobs t.reading (rows t.job_slots.items) (with_job job s.jobs) =
      subst (λ at. KeepsJobs at (rows t.job_slots.items) (with_job job s.jobs)) (sym alike.reading)
      (subst (λ all. KeepsJobs old.reading (rows all) (with_job job s.jobs)) (sym c.enter.ensures.job_slots) jobs) in
      let rests : RestBut (is_at c.place_before-place.result) 0 (rows t.job_slots.items) (with_job job s.jobs) =
      subst (λ place. RestBut (is_at place) 0 (rows t.job_slots.items) (with_job job s.jobs)) (sym (at-place c.args.self.now.job_slots.items _ c.args.ready.job_slot.def.label _ _ c.place_before-place.ensures (c.label.ensures ∙ ap (λ e. e.def.label) c.lent.ensures) c.deref.ensures.value))
      (rest-entered old.reading new job this (rows t.job_slots.items) es s.jobs (position (is_above label) es) (subst (λ rs. KeepsJobs old.reading rs s.jobs) (rows-all es stay) before) refl keeps.rests) in
      let after : IsHead t (taken s e) = record {
        reading = alike.reading ∙ keeps.reading;
        zone = ap minute_at alike.zone ∙ keeps.zone;
        settings = λ l. ap (λ held. first (filter (sets l) held.items)) alike.settings ∙ c.set_if.ensures.kept l
            ∙ settings-after c.args.ready.setting label old.settings.items s.settings c.requires.ready.setting keeps.settings l;
        shutdown = alike.shutdown ∙ keeps.shutdown;
      } in
      let done = accepted (seen_table old) (seen_table c.ask_at.new.self) s e (load_text new.def.not_acted_on) c.requires.sound.sound.in_range keeps none
      (received-already t c.ask_at.new.self (taken s e) c.place_before-place.result c.ask_at.ensures.alike after here rests c.ask_at.ensures.kept c.ask_at.ensures.orders) refl in
      record { kept = done.kept; outcome = done.outcome };
  counted =
      let es = c.args.self.now.job_slots.items in
      let new = c.args.ready.job_slot in
      let t = c.enter.new.self in
      let same : (label : Label) → count_in (counts (rows t.job_slots.items)) label ≡ count_in (counts (rows es)) label = λ label. ap (λ all. count_in (counts (rows all)) label) c.enter.ensures.job_slots
      ∙ counts-placed new es (place_for new.def.label es) label (stay-names es c.requires.ready.tidy) c.requires.ready.stays c.requires.ready.absent c.requires.ready.fresh in
      counted-from (counts (rows t.job_slots.items)) (counts (rows es)) _ _ _ same c.ask_at.ensures.counted;
  spared = λ force bind store s keeps label past found apart.
      let es = c.args.self.now.job_slots.items in
      let new = c.args.ready.job_slot in
      let k = place_for new.def.label es in
      let t = c.enter.new.self in
      c.ask_at.ensures.spared label
      (new-apart new es t.job_slots.items k c.place_before-place.result label c.enter.ensures.job_slots (at-place c.args.self.now.job_slots.items _ c.args.ready.job_slot.def.label _ _ c.place_before-place.ensures (c.label.ensures ∙ ap (λ e. e.def.label) c.lent.ensures) c.deref.ensures.value)
      (place-low (is_above new.def.label) es (position (is_above new.def.label) es) refl) apart)
      ∙ ap (λ all. count_in (counts (rows all)) label) c.enter.ensures.job_slots
      ∙ counts-placed new es k label (stay-names es c.requires.ready.tidy) c.requires.ready.stays c.requires.ready.absent c.requires.ready.fresh;
  names =
      let es = c.args.self.now.job_slots.items in
      let new = c.args.ready.job_slot in
      let names = c.ask_at.ensures.names ∙ ap (map name) c.enter.ensures.job_slots in
      let each = named-placed new es (place_for new.def.label es) (subst IsOnce names c.ask_at.ensures.whole.sound.once) in
      record {
        numbered = numbered c.ask_at.new.self c.ask_at.ensures.whole.sound;
        others = subst (λ ns. AllByRecursion (λ (r : Row). definition_of_number ns r.number ≡ Some r.described) (rows es)) (sym names) each.1;
        own = subst (λ ns. definition_of_number ns new.number ≡ Some new.def) (sym names) each.0;
      };
  room =
      let first = c.enter.ensures.room in
      let then = c.ask_at.ensures.room in
      let after = c.make_way.new.places in
      let t = c.enter.new.self in
      let lent = lent-back after (drop (length after) t.index.places.items) t.index.places.len (omega arith) in
      record {
        jobs = then.jobs ∙ first.jobs;
        orders = then.orders ∙ first.orders;
        settings = then.settings ∙ first.settings ∙ c.set_if.ensures.room;
        numbers = then.numbers ∙ first.numbers;
        moments = then.moments ∙ first.moments;
        marks = then.marks ∙ first.marks;
        places = then.places ∙ ap length lent ∙ c.make_way.ensures.length ∙ ap length c.deref_mut.ensures.value ∙ first.places;
        triggers = then.triggers ∙ first.triggers;
      };
  held = ap (λ held. length held.items) (c.ask_at.ensures.alike.settings ∙ c.enter.ensures.alike.settings) ∙ c.set_if.ensures.held;
  triggers =
      let same = ap vec_len c.ask_at.ensures.triggers in
      let more = c.enter.ensures.triggers in
      let long = c.args.ready.triggers.ok.0 in
      omega (arith, same, more, long);
}
