-- What is left is what stays.
use Rattle.std.proofs.Common.{◌≡◌, ℕ, true, is_some, map, length, drop, ap, sym, subst, ◌∙◌, ◌<◌, arith}
use Rattle.std.specs.Vec.{with_items}
use Rattle.std.specs.List.{list_any, filter}
use Rattle.loaded_jobs.specs.Tables.{IsOnce, definition_of_number}
use Rattle.loaded_jobs.specs.JobSlots.{name, has_gone_under}
use Rattle.loaded_jobs.specs.Index.{ArePlaced}
use Rattle.history_model.specs.News.{is_some_entry}
use Rattle.loaded_jobs.specs.Triggers.{stays_under}
use Rattle.loaded_jobs.proofs.ListLemmas.{lent-back}
use Rattle.loaded_jobs.proofs.TidyLemmas.{tidy-once}
use Rattle.loaded_jobs.proofs.IndexGrowthLemmas.{tidy-named}
use Rattle.loaded_jobs.proofs.EventsLemmas.{calendars-names}
use Rattle.loaded_jobs.proofs.LeavingLemmas.{tidied-all, tidied-sound, tidied-indexed}
use Rattle.loaded_jobs.proofs.jobs.Jobs.drop_gone.Goals as goal

pub place_all-requires-clause-once : goal.place_all-requires-clause-once
place_all-requires-clause-once c = subst (λ es. IsOnce (map name es)) (sym (c.deref-4.ensures.value ∙ c.tidy.ensures.items)) (tidy-once c.args.self.now.job_slots.items c.requires.sound.once)

pub place_all-requires-clause-fits : goal.place_all-requires-clause-fits
place_all-requires-clause-fits c =
    let old = c.args.self.now in
    subst (λ ps. (number : ℕ) → is_some (definition_of_number (map name c.deref-4.result.now) number) ≡ true → number < length ps) (sym c.deref_mut.ensures.value)
    (subst (λ es. (number : ℕ) → is_some (definition_of_number (map name es) number) ≡ true → number < length old.index.places.items) (sym (c.deref-4.ensures.value ∙ c.tidy.ensures.items))
    (tidy-named old.index old.reading.up old.job_slots.items c.requires.indexed).fits)

pub returns-clause-sound : goal.returns-clause-sound
returns-clause-sound c =
    let old = c.args.self.now in
    let after = c.place_all.new.places in
    let whole = lent-back after (drop (length after) old.index.places.items) old.index.places.len (omega arith) in
    tidied-sound old _ c.requires.sound c.requires.indexed
    (tidied-all old c.release.new.numbers c.forget.new.listed c.tidy.new.job_slots (with_items old.index.places after) c.has_calendars-self.result c.requires.sound c.requires.indexed c.requires.empty
    c.tidy.ensures.items c.tidy.ensures.count
    (λ number going. c.release.ensures.freed number (ap (list_any (has_gone_under number)) c.deref.ensures.value ∙ going))
    (λ number none. c.release.ensures.others number (ap (list_any (has_gone_under number)) c.deref.ensures.value ∙ none))
    (c.forget.ensures.items ∙ (λ i. filter (stays_under (c.deref-2.ensures.value i) (c.deref-3.ensures.value i)) old.triggers.items))
    (subst (λ ps. ArePlaced ps c.tidy.new.job_slots.items) (sym whole) (subst (ArePlaced after) c.deref-4.ensures.value c.place_all.ensures.placed))
    (c.has_calendars-self.ensures ∙ ap (list_any (λ e. is_some_entry e.def.calendar)) c.deref-5.ensures.value ∙ calendars-names c.tidy.new.job_slots.items))

pub returns-clause-indexed : goal.returns-clause-indexed
returns-clause-indexed c =
    let old = c.args.self.now in
    let after = c.place_all.new.places in
    let whole = lent-back after (drop (length after) old.index.places.items) old.index.places.len (omega arith) in
    tidied-indexed old (record old { job_slots = c.tidy.new.job_slots; numbers = c.release.new.numbers; index = record old.index { places = with_items old.index.places after }; has_calendars = c.has_calendars-self.result; triggers = c.forget.new.listed }) c.requires.indexed
    (tidied-all old c.release.new.numbers c.forget.new.listed c.tidy.new.job_slots (with_items old.index.places after) c.has_calendars-self.result c.requires.sound c.requires.indexed c.requires.empty
    c.tidy.ensures.items c.tidy.ensures.count
    (λ number going. c.release.ensures.freed number (ap (list_any (has_gone_under number)) c.deref.ensures.value ∙ going))
    (λ number none. c.release.ensures.others number (ap (list_any (has_gone_under number)) c.deref.ensures.value ∙ none))
    (c.forget.ensures.items ∙ (λ i. filter (stays_under (c.deref-2.ensures.value i) (c.deref-3.ensures.value i)) old.triggers.items))
    (subst (λ ps. ArePlaced ps c.tidy.new.job_slots.items) (sym whole) (subst (ArePlaced after) c.deref-4.ensures.value c.place_all.ensures.placed))
    (c.has_calendars-self.ensures ∙ ap (list_any (λ e. is_some_entry e.def.calendar)) c.deref-5.ensures.value ∙ calendars-names c.tidy.new.job_slots.items))
