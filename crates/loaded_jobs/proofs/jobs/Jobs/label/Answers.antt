-- The first slot with the number.
use Rattle.std.proofs.Common.{ap, sym, subst, ◌∙◌}
use Rattle.std.specs.List.{position}
use Rattle.loaded_jobs.specs.JobSlots.{has_number}
use Rattle.loaded_jobs.specs.Index.{ArePlaced}
use Rattle.loaded_jobs.proofs.FirstLemmas.{first-where, none-where}
use Rattle.loaded_jobs.proofs.RestLemmas.{label-at, no-label}
use Rattle.loaded_jobs.proofs.jobs.Jobs.label.Goals as goal

pub returns-in-None : goal.returns-in-None
returns-in-None c =
    let es = c.args.self.now.job_slots.items in
    sym (no-label c.args.job es (none-where (has_number c.args.job) es (c.in-None.ensures ∙ ap (position (has_number c.args.job)) c.deref.ensures.value)))

pub returns-in-Some : goal.returns-in-Some
returns-in-Some c =
    let es = c.args.self.now.job_slots.items in
    c.label.ensures ∙ ap (λ e. e.def.label) (c.lent.ensures ∙ c.index.ensures)
    ∙ sym (label-at c.args.job es c.in-Some.place c.index.result.now (first-where (has_number c.args.job) es c.in-Some.place (c.in-Some.ensures ∙ ap (position (has_number c.args.job)) c.deref.ensures.value)))

pub place_of_number-requires : goal.place_of_number-requires
place_of_number-requires c =
    subst (λ ps. ArePlaced ps c.deref.result.now) (sym c.deref-2.ensures.value) (subst (ArePlaced c.args.self.now.index.places.items) (sym c.deref.ensures.value) c.requires)
