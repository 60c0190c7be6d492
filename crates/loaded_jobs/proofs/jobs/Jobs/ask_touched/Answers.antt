-- The jobs at the marked places are those that the touch reaches.
use Rattle.std.proofs.Common.{◌<◌, map, length, refl, sym, subst, ◌∙◌}
use Rattle.history_model.proofs.BooleanLemmas.{not-false}
use Rattle.place_set.specs.Places.{has_place}
use Rattle.loaded_jobs.specs.Index.{ArePlaced}
use Rattle.loaded_jobs.specs.JobSlots.{name}
use Rattle.loaded_jobs.specs.AffectedJobs.{item_for, reaches}
use Rattle.loaded_jobs.specs.Triggers.{AreListed}
use Rattle.loaded_jobs.specs.Visiting.{is_spared}
use Rattle.loaded_jobs.specs.Visits.{CanVisit, VisitsTouched}
use Rattle.loaded_jobs.proofs.AskedLemmas.{can-visit, asked}
use Rattle.loaded_jobs.proofs.TouchedLemmas.{none-for, marked-at}
use Rattle.loaded_jobs.proofs.jobs.Jobs.ask_touched.Goals as goal

pub mark_touched-requires-clause-listed : goal.mark_touched-requires-clause-listed
mark_touched-requires-clause-listed c =
    subst (λ ls. AreListed ls (map name c.deref.result.now)) (sym c.deref-2.ensures.value) (subst (λ es. AreListed c.args.self.now.triggers.items (map name es)) (sym c.deref.ensures.value) c.requires.can.sound.listed)

pub mark_touched-requires-clause-placed : goal.mark_touched-requires-clause-placed
mark_touched-requires-clause-placed c =
    subst (λ ps. ArePlaced ps c.deref.result.now) (sym c.deref-3.ensures.value) (subst (ArePlaced c.args.self.now.index.places.items) (sym c.deref.ensures.value) c.requires.can.placed)

pub visit_ready-visited-requires-clause-can : goal.visit_ready-visited-requires-clause-can
visit_ready-visited-requires-clause-can c =
    let old = c.args.self.now in
    let affected = c.args.affected in
    let ready = c.mark_touched.new.ready in
    subst (λ es. CanVisit (item_for affected) old.reading old.reading (is_spared ready) es old.index.timers) (sym c.deref_mut.ensures.value)
    (can-visit (item_for affected) (reaches affected) (none-for affected) (is_spared ready) old c.requires.can
    (marked-at (reaches affected) (is_spared ready) c.deref.result.now old.job_slots.items c.deref.ensures.value c.mark_touched.ensures.touched) c.requires.brings
    (λ place some. subst (λ es. place < length es) c.deref.ensures.value (c.mark_touched.ensures.marks place (not-false (has_place ready place) some))))

pub returns : goal.returns
returns c =
    let old = c.args.self.now in
    let affected = c.args.affected in
    let ready = c.mark_touched.new.ready in
    let after = c.visit_ready-visited.new.job_slots in
    asked (item_for affected) (reaches affected) (none-for affected) (is_spared ready) old c.requires.can
    (marked-at (reaches affected) (is_spared ready) c.deref.result.now old.job_slots.items c.deref.ensures.value c.mark_touched.ensures.touched) _ after
    (subst (λ es. VisitsTouched (item_for affected) old.reading old.reading (is_spared ready) es after old.orders.items c.visit_ready-visited.new.orders.items c.visit_ready-visited.new.timers c.visit_ready-visited.result.0 c.visit_ready-visited.result.1)
    c.deref_mut.ensures.value c.visit_ready-visited.ensures.visits)
    refl refl refl refl refl (record { reading = refl; zone = refl; settings = refl; shutdown = refl })
    c.visit_ready-visited.ensures.unmarked.done (c.visit_ready-visited.ensures.unmarked.marks ∙ c.mark_touched.ensures.room) c.visit_ready-visited.ensures.unmarked.space c.visit_ready-visited.ensures.capacity
