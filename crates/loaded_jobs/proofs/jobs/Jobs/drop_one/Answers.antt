-- What is left is what stays, and the places before are as they were.
use Rattle.std.proofs.Common.{◌≡◌, ◌<◌, ◌+◌, ℕ, suc, true, is_some, cond, List, Some, map, length, drop, get_or, ap, sym, subst, ◌∙◌, arith}
use Rattle.std.specs.Prelude.{slice_get, None}
use Rattle.std.specs.Vec.{with_items}
use Rattle.slab.specs.Slab.{Updates}
use Rattle.std.specs.List.{list_any, filter, remove}
use Rattle.loaded_jobs.specs.Tables.{definition_of_number}
use Rattle.loaded_jobs.specs.JobSlots.{name, job_slot_stays}
use Rattle.loaded_jobs.specs.Index.{ArePlaced, place_in}
use Rattle.loaded_jobs.specs.Leaving.{AllStayBut}
use Rattle.history_model.specs.News.{is_some_entry}
use Rattle.loaded_jobs.specs.declared.job_slot.JobSlot.{JobSlot}
use Rattle.loaded_jobs.proofs.ListLemmas.{lent-back}
use Rattle.loaded_jobs.proofs.IndexLemmas.{is-named-at}
use Rattle.loaded_jobs.proofs.MomentsLemmas.{get-at}
use Rattle.loaded_jobs.proofs.IndexGrowthLemmas.{tidy-named}
use Rattle.loaded_jobs.proofs.GoneLemmas.{all-past, all-here}
use Rattle.loaded_jobs.proofs.LeavingLemmas.{tidied-one, tidied-sound, tidied-indexed, filter-all, without, before-removed, after-removed}
use Rattle.loaded_jobs.proofs.jobs.Jobs.drop_one.Goals as goal

pub returns-then-place-len-clause-job_slots : goal.returns-then-place-len-clause-job_slots
returns-then-place-len-clause-job_slots c =
    let es = c.args.self.now.job_slots.items in
    let past = c.if-place-len.true in
    let long = c.args.self.now.job_slots.ok.0 in
    sym (filter-all es (all-past c.args.place es c.requires.others (grind (arith, past, long))))

pub returns-then-not-has_gone-clause-job_slots : goal.returns-then-not-has_gone-clause-job_slots
returns-then-not-has_gone-clause-job_slots c =
    let es = c.args.self.now.job_slots.items in
    let inside = c.if-place-len.false in
    let long = c.args.self.now.job_slots.ok.0 in
    let within : c.args.place < length es = grind (arith, inside, long) in
    sym (filter-all es (all-here c.args.place es c.index.result.now c.requires.others (get-at es c.args.place c.index.result.now within c.index.ensures) (sym c.has_gone.ensures ∙ c.if-not-has_gone.true)))

-- the slot that is removed is the one that was looked at
same-at : (es : List JobSlot) (k : ℕ) (seen gone : JobSlot) → k < length es → seen ≡ get_or es k seen → gone ≡ get_or es k gone → seen ≡ gone
same-at es k seen gone within looked taken =
    let same : Some seen ≡ Some gone = sym (get-at es k seen within looked) ∙ get-at es k gone within taken in cc

at-place : (es : List JobSlot) (k : ℕ) (gone : JobSlot) → k < length es → gone ≡ get_or es k gone → slice_get es k ≡ Some gone
at-place es k gone within taken = get-at es k gone within taken

went : (es : List JobSlot) (k : ℕ) (seen gone : JobSlot) → k < length es → seen ≡ get_or es k seen → gone ≡ get_or es k gone → seen.has_gone ≡ true → gone.has_gone ≡ true
went es k seen gone within looked taken is = ap (λ e. e.has_gone) (sym (same-at es k seen gone within looked taken)) ∙ is

left : (es later : List JobSlot) (k : ℕ) (seen gone : JobSlot) → k < length es → seen ≡ get_or es k seen → gone ≡ get_or es k gone → seen.has_gone ≡ true → AllStayBut k es → later ≡ remove es k → later ≡ filter job_slot_stays es
left es later k seen gone within looked taken is others removed = removed ∙ without gone (went es k seen gone within looked taken is) k es others (at-place es k gone within taken)

pub close_up-requires-clause-fits : goal.close_up-requires-clause-fits
close_up-requires-clause-fits c = λ k e there.
    let old = c.args.self.now in
    let es = old.job_slots.items in
    let inside = c.if-place-len.false in
    let long = c.args.self.now.job_slots.ok.0 in
    let within : c.args.place < length es = grind (arith, inside, long) in
    let is = left es c.remove-job_slot.new.self.items c.args.place c.index.result.now c.remove-job_slot.result within c.index.ensures c.remove-job_slot.ensures.value (sym c.has_gone.ensures ∙ c.if-not-has_gone.false) c.requires.others c.remove-job_slot.ensures.items in
    subst (λ ps. e.number < length ps) (sym c.deref_mut.ensures.value)
    (subst (λ xs. (number : ℕ) → is_some (definition_of_number (map name xs) number) ≡ true → number < length old.index.places.items) (sym (c.deref.ensures.value ∙ is))
    (tidy-named old.index old.reading.up es c.requires.indexed).fits e.number (is-named-at c.deref.result.now k e there))

pub close_up-requires-clause-before : goal.close_up-requires-clause-before
close_up-requires-clause-before c = λ k e there low.
    let es = c.args.self.now.job_slots.items in
    let at = before-removed es c.args.place k e (ap (λ xs. slice_get xs k) (sym (c.deref.ensures.value ∙ c.remove-job_slot.ensures.items)) ∙ there) low in
    ap (λ ps. place_in ps e.number) c.deref_mut.ensures.value ∙ (c.requires.indexed.placed k e at).1

pub close_up-requires-clause-behind : goal.close_up-requires-clause-behind
close_up-requires-clause-behind c = λ k e there high.
    let es = c.args.self.now.job_slots.items in
    let at = after-removed es c.args.place k e (ap (λ xs. slice_get xs k) (sym (c.deref.ensures.value ∙ c.remove-job_slot.ensures.items)) ∙ there) high in
    let more : suc k ≡ k + 1 = omega arith in
    ap (λ ps. place_in ps e.number) c.deref_mut.ensures.value ∙ (c.requires.indexed.placed (suc k) e at).1 ∙ more

pub returns-clause-job_slots : goal.returns-clause-job_slots
returns-clause-job_slots c =
    let es = c.args.self.now.job_slots.items in
    let inside = c.if-place-len.false in
    let long = c.args.self.now.job_slots.ok.0 in
    let within : c.args.place < length es = grind (arith, inside, long) in
    left es c.remove-job_slot.new.self.items c.args.place c.index.result.now c.remove-job_slot.result within c.index.ensures c.remove-job_slot.ensures.value (sym c.has_gone.ensures ∙ c.if-not-has_gone.false) c.requires.others c.remove-job_slot.ensures.items

pub returns-clause-sound : goal.returns-clause-sound
returns-clause-sound c =
    let old = c.args.self.now in
    let es = old.job_slots.items in
    let gone = c.remove-job_slot.result in
    let inside = c.if-place-len.false in
    let long = c.args.self.now.job_slots.ok.0 in
    let within : c.args.place < length es = grind (arith, inside, long) in
    let after = c.close_up.new.places in
    let less = c.remove-job_slot.ensures.len in
    let whole = lent-back after (drop (length after) old.index.places.items) old.index.places.len (omega arith) in
    tidied-sound old (record old { job_slots = c.remove-job_slot.new.self; numbers = c.try_remove-held.new.self; index = record old.index { places = with_items old.index.places after }; has_calendars = c.has_some_calendar-self.result; triggers = c.forget_one.new.listed })
    c.requires.sound c.requires.indexed
    (tidied-one old c.args.place gone c.try_remove-held.new.self c.forget_one.new.listed c.remove-job_slot.new.self (with_items old.index.places after) c.has_some_calendar-self.result
    c.requires.sound c.requires.empty c.requires.others (at-place es c.args.place gone within c.remove-job_slot.ensures.value)
    (went es c.args.place c.index.result.now gone within c.index.ensures c.remove-job_slot.ensures.value (sym c.has_gone.ensures ∙ c.if-not-has_gone.false)) c.remove-job_slot.ensures.items (omega (arith, less)) (subst (λ n. Updates old.numbers c.try_remove-held.new.self n None) c.number.ensures c.try_remove-held.ensures.updates) c.forget_one.ensures.items
    (subst (λ ps. ArePlaced ps c.remove-job_slot.new.self.items) (sym whole) (subst (ArePlaced after) c.deref.ensures.value c.close_up.ensures.placed))
    (c.has_some_calendar-self.ensures ∙ ap (λ xs. cond (is_some_entry gone.def.calendar) (list_any (λ e. is_some_entry e.def.calendar) xs) old.has_calendars) c.deref-2.ensures.value))

pub returns-clause-indexed : goal.returns-clause-indexed
returns-clause-indexed c =
    let old = c.args.self.now in
    let es = old.job_slots.items in
    let gone = c.remove-job_slot.result in
    let inside = c.if-place-len.false in
    let long = c.args.self.now.job_slots.ok.0 in
    let within : c.args.place < length es = grind (arith, inside, long) in
    let after = c.close_up.new.places in
    let less = c.remove-job_slot.ensures.len in
    let whole = lent-back after (drop (length after) old.index.places.items) old.index.places.len (omega arith) in
    tidied-indexed old (record old { job_slots = c.remove-job_slot.new.self; numbers = c.try_remove-held.new.self; index = record old.index { places = with_items old.index.places after }; has_calendars = c.has_some_calendar-self.result; triggers = c.forget_one.new.listed })
    c.requires.indexed
    (tidied-one old c.args.place gone c.try_remove-held.new.self c.forget_one.new.listed c.remove-job_slot.new.self (with_items old.index.places after) c.has_some_calendar-self.result
    c.requires.sound c.requires.empty c.requires.others (at-place es c.args.place gone within c.remove-job_slot.ensures.value)
    (went es c.args.place c.index.result.now gone within c.index.ensures c.remove-job_slot.ensures.value (sym c.has_gone.ensures ∙ c.if-not-has_gone.false)) c.remove-job_slot.ensures.items (omega (arith, less)) (subst (λ n. Updates old.numbers c.try_remove-held.new.self n None) c.number.ensures c.try_remove-held.ensures.updates) c.forget_one.ensures.items
    (subst (λ ps. ArePlaced ps c.remove-job_slot.new.self.items) (sym whole) (subst (ArePlaced after) c.deref.ensures.value c.close_up.ensures.placed))
    (c.has_some_calendar-self.ensures ∙ ap (λ xs. cond (is_some_entry gone.def.calendar) (list_any (λ e. is_some_entry e.def.calendar) xs) old.has_calendars) c.deref-2.ensures.value))
