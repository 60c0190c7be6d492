-- The job with the label, in the machine.
use Rattle.std.proofs.Common.{Some, ap, sym, ◌∙◌, subst, map}
use Rattle.std.specs.Prelude.{if◌then◌else◌}
use Rattle.std.specs.List.{position}
use Rattle.history_model.specs.declared.Refusal.TheVariants.{Removing, AlreadyLoaded}
use Rattle.history_model.specs.FactsOfPast.{Keeps}
use Rattle.history_model.specs.Acceptance.{refusal_there}
use Rattle.loaded_jobs.specs.JobSlots.{name, has_label}
use Rattle.loaded_jobs.proofs.PlacesLemmas.{is-found, is-absent}
use Rattle.loaded_jobs.proofs.LoadsLemmas.{absent-names}
use Rattle.history_model.specs.MachineLaws.{AreInOrder}
use Rattle.loaded_jobs.specs.Tables.{labels_in}
use Rattle.loaded_jobs.proofs.jobs.Jobs.refusal_there.Goals as goal

pub returns-in_default-clause-answer : goal.returns-in_default-clause-answer
returns-in_default-clause-answer c = λ s keeps.
    let none = c.in_default.ensures ∙ ap (position (has_label c.args.label.now)) c.deref.ensures.value in
    ap refusal_there (sym (is-absent s.reading c.args.label.now c.args.self.now.job_slots.items s.jobs c.requires.stay keeps.jobs none))

pub returns-in_default-clause-absent : goal.returns-in_default-clause-absent
returns-in_default-clause-absent c = λ is. absent-names c.args.label.now c.args.self.now.job_slots.items (c.in_default.ensures ∙ ap (position (has_label c.args.label.now)) c.deref.ensures.value)

pub returns-then-is_removing-clause-answer : goal.returns-then-is_removing-clause-answer
returns-then-is_removing-clause-answer c = λ s keeps.
    let e = c.index.result.now in
    let at = c.in-Some.ensures ∙ ap (position (has_label c.args.label.now)) c.deref.ensures.value in
    let there = is-found s.reading c.args.label.now c.args.self.now.job_slots.items c.in-Some.place e s.jobs c.requires.stay keeps.jobs at in
    let removing = c.is_removing.ensures there.past (subst (λ x. Keeps x.core.facts there.past) (sym (c.lent.ensures ∙ c.index.ensures)) there.keeps) in
    ap (λ b. Some (if b then Removing else AlreadyLoaded)) (sym c.if-is_removing.true ∙ removing) ∙ ap refusal_there (sym there.is)

pub returns-clause-answer : goal.returns-clause-answer
returns-clause-answer c = λ s keeps.
    let e = c.index.result.now in
    let at = c.in-Some.ensures ∙ ap (position (has_label c.args.label.now)) c.deref.ensures.value in
    let there = is-found s.reading c.args.label.now c.args.self.now.job_slots.items c.in-Some.place e s.jobs c.requires.stay keeps.jobs at in
    let removing = c.is_removing.ensures there.past (subst (λ x. Keeps x.core.facts there.past) (sym (c.lent.ensures ∙ c.index.ensures)) there.keeps) in
    ap (λ b. Some (if b then Removing else AlreadyLoaded)) (sym c.if-is_removing.false ∙ removing) ∙ ap refusal_there (sym there.is)

pub place_of-requires : goal.place_of-requires
place_of-requires c = subst (λ es. AreInOrder (labels_in (map name es))) (sym c.deref.ensures.value) c.requires.whole.sound.order
