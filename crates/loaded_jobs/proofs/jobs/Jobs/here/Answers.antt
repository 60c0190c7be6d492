-- The job is the one with the label, and the machine has its past.
use Rattle.std.proofs.Common.{ap, sym, ◌∙◌, subst, map}
use Rattle.std.specs.List.{position}
use Rattle.history_model.specs.Search.{first}
use Rattle.history_model.specs.Machine.{past_in}
use Rattle.history_model.specs.MachineLaws.{AreInOrder}
use Rattle.loaded_jobs.specs.Here.{IsFound}
use Rattle.loaded_jobs.specs.Tables.{labels_in}
use Rattle.loaded_jobs.specs.JobSlots.{name, is_loaded_under}
use Rattle.loaded_jobs.proofs.FirstLemmas.{first-where, none-where}
use Rattle.loaded_jobs.proofs.PlacesLemmas.{no-one-here, someone-here}
use Rattle.loaded_jobs.proofs.jobs.Jobs.here.Goals as goal

pub place_here-requires : goal.place_here-requires
place_here-requires c = subst (λ es. AreInOrder (labels_in (map name es))) (sym c.deref.ensures.value) c.requires.order

pub returns-in-None : goal.returns-in-None
returns-in-None c = λ s keeps.
    let es = c.args.self.now.job_slots.items in
    let label = c.args.label.now in
    let none = none-where (is_loaded_under label) es (c.in-None.ensures ∙ ap (position (is_loaded_under label)) c.deref.ensures.value) in
    ap (λ found. past_in (first found)) (no-one-here s.reading label es s.jobs keeps.jobs none)

pub returns-in-Some : goal.returns-in-Some
returns-in-Some c = λ s keeps.
    let es = c.args.self.now.job_slots.items in
    let label = c.args.label.now in
    let e = c.index.result.now in
    let at = c.in-Some.ensures ∙ ap (position (is_loaded_under label)) c.deref.ensures.value in
    subst (λ x. IsFound s.reading label x s.jobs) (sym (c.lent.ensures ∙ c.index.ensures))
    (someone-here s.reading label es c.in-Some.place e s.jobs keeps.jobs (first-where (is_loaded_under label) es c.in-Some.place at))
