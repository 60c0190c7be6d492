-- The label that was found is that of one job, which has a child.
use Rattle.std.proofs.Common.{◌≡◌, true, false, Some, None, is_some, ap, sym, ◌∙◌, subst, rules, map}
use Rattle.std.specs.List.{position}
use Rattle.history_model.specs.Search.{first}
use Rattle.history_model.specs.FactsOfPast.{Keeps}
use Rattle.history_model.specs.Machine.{past_in}
use Rattle.loaded_jobs.specs.StandsFor.{KeepsJobs}
use Rattle.loaded_jobs.specs.JobSlots.{name, rows, is_loaded_under}
use Rattle.loaded_jobs.specs.Sound.{seen_table}
use Rattle.loaded_jobs.specs.Nearest.{IsNearest, IsNextChild, with_child, run_in}
use Rattle.loaded_jobs.proofs.FirstLemmas.{first-where, none-where, within-where}
use Rattle.loaded_jobs.proofs.PlacesLemmas.{no-one-here, someone-here}
use Rattle.loaded_jobs.proofs.LabelledLemmas.{number-named}
use Rattle.loaded_jobs.proofs.NearestLemmas.{here-labelled}
use Rattle.loaded_jobs.proofs.ChildLemmas.{child-there, run-present}
use Rattle.history_model.specs.MachineLaws.{AreInOrder}
use Rattle.loaded_jobs.specs.Tables.{label_of, labels_in}
use Rattle.loaded_jobs.proofs.jobs.Jobs.child_after.Goals as goal

pub returns-in_err-label : goal.returns-in_err-label
returns-in_err-label c = λ s keeps.
    let query = c.args.text.now in
    let jobs = subst (λ es. KeepsJobs s.reading (rows es) s.jobs) (sym c.deref.ensures.value) keeps.jobs in
    let none : c.from_residual.result ≡ None = search rules in
    subst (IsNextChild (seen_table c.args.self.now) query s) (sym none)
    (c.in_err-label.ensures s.reading s.jobs jobs)

pub returns-in_err-place : goal.returns-in_err-place
returns-in_err-place c = λ s keeps.
    let query = c.args.text.now in
    let es = c.args.self.now.job_slots.items in
    let label = c.in_ok-label.label.now in
    let jobs = subst (λ all. KeepsJobs s.reading (rows all) s.jobs) (sym c.deref.ensures.value) keeps.jobs in
    let near : IsNearest query (with_child s.jobs) label = c.in_ok-label.ensures s.reading s.jobs jobs in
    let none = none-where (is_loaded_under label) es (c.in_err-place.ensures ∙ ap (position (is_loaded_under label)) c.deref-2.ensures.value) in
    let there = child-there s.reading label es s.jobs c.requires.once keeps.jobs near.among in
    let clash : false ≡ true = sym (ap (λ found. is_some (run_in (past_in (first found)))) (no-one-here s.reading label es s.jobs keeps.jobs none)) ∙ there in absurd (cc clash)

pub returns : goal.returns
returns c = λ s keeps.
    let query = c.args.text.now in
    let es = c.args.self.now.job_slots.items in
    let label = c.in_ok-label.label.now in
    let place = c.in_ok-place.place in
    let e = c.index.result.now in
    let lent = c.lent-job_slot.ensures in
    let jobs = subst (λ all. KeepsJobs s.reading (rows all) s.jobs) (sym c.deref.ensures.value) keeps.jobs in
    let near : IsNearest query (with_child s.jobs) label = c.in_ok-label.ensures s.reading s.jobs jobs in
    let at = first-where (is_loaded_under label) es place (c.in_ok-place.ensures ∙ ap (position (is_loaded_under label)) c.deref-2.ensures.value) in
    let there = someone-here s.reading label es place e s.jobs keeps.jobs at in
    let kept = subst (λ x. Keeps x.core.facts there.past) (sym (lent ∙ c.index.ensures)) there.keeps in
    let named = ap (λ x. label_of (map name es) x.number) lent ∙ number-named es place e (within-where (is_loaded_under label) es place at) c.index.ensures c.requires.once in
    let same = here-labelled label es place e at c.index.ensures in
    let run = run-present there.past (past_in _) kept.lawful there.is (child-there s.reading label es s.jobs c.requires.once keeps.jobs near.among) in
    (near, named ∙ sym same, run ∙ ap Some (sym (ap (λ row. row.runs) (c.shown.ensures there.past kept))))

pub place_here-requires : goal.place_here-requires
place_here-requires c = subst (λ es. AreInOrder (labels_in (map name es))) (sym c.deref-2.ensures.value) c.requires.order

pub label_after-requires : goal.label_after-requires
label_after-requires c = subst (λ es. AreInOrder (labels_in (map name es))) (sym c.deref.ensures.value) c.requires.order
