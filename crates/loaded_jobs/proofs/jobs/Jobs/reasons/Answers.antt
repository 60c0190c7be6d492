-- The reasons are those of the one job with the label.
use Rattle.std.proofs.Common.{Some, ap, sym, ◌∙◌}
use Rattle.std.specs.Option.{option_map}
use Rattle.history_model.specs.Reasons.{reasons_of}
use Rattle.loaded_jobs.proofs.jobs.Jobs.reasons.Goals as goal

pub returns-in-None : goal.returns-in-None
returns-in-None c = λ s keeps. ap (option_map reasons_of) (sym (c.in-None.ensures s keeps))

pub returns-in-Some : goal.returns-in-Some
returns-in-Some c = λ s keeps.
    let there = c.in-Some.ensures s keeps in
    ap Some (c.reasons.ensures there.past there.keeps (keeps.reading ∙ there.present)) ∙ ap (option_map reasons_of) (sym there.is)
