-- The first slot with the number.
use Rattle.std.proofs.Common.{◌≡◌, true, false, is_some, ap, sym, subst, ◌∙◌, Some}
use Rattle.std.specs.List.{position}
use Rattle.loaded_jobs.specs.JobSlots.{has_number}
use Rattle.loaded_jobs.specs.Index.{ArePlaced}
use Rattle.loaded_jobs.proofs.FirstLemmas.{first-where, none-where}
use Rattle.loaded_jobs.proofs.RestLemmas.{definition-at, no-definition}
use Rattle.loaded_jobs.proofs.jobs.Jobs.def.Goals as goal

pub unreachable-requires : goal.unreachable-requires
unreachable-requires c =
    let es = c.args.self.now.job_slots.items in
    let none = no-definition c.args.job es (none-where (has_number c.args.job) es (c.in-None.ensures ∙ ap (position (has_number c.args.job)) c.deref.ensures.value)) in
    let clash : false ≡ true = sym (ap is_some none) ∙ c.requires.known in absurd (cc clash)

pub returns : goal.returns
returns c =
    let es = c.args.self.now.job_slots.items in
    definition-at c.args.job es c.in-Some.place c.index.result.now (first-where (has_number c.args.job) es c.in-Some.place (c.in-Some.ensures ∙ ap (position (has_number c.args.job)) c.deref.ensures.value))
    ∙ ap Some (sym (ap (λ e. e.def) (c.lent.ensures ∙ c.index.ensures)))

pub place_of_number-requires : goal.place_of_number-requires
place_of_number-requires c =
    subst (λ ps. ArePlaced ps c.deref.result.now) (sym c.deref-2.ensures.value) (subst (ArePlaced c.args.self.now.index.places.items) (sym c.deref.ensures.value) c.requires.placed)
