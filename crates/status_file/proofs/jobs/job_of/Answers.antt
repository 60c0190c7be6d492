use Rattle.std.proofs.Common.{◌≡◌, ◌==◌, ◌∙◌, true, false, length, ap, sym}
use Rattle.job_table.specs.Ends.{names_in}
use Rattle.status_file.proofs.JobsLemmas.{defined}
use Rattle.status_file.proofs.jobs.job_of.Goals as goal

pub def-requires : goal.def-requires
def-requires c =
    defined (names_in c.last_step-step.result) c.args.job (λ none.
    let clash : true ≡ false = sym (ap (λ l. length l == 0) (c.label-label.ensures ∙ none)) ∙ sym c.is_empty.ensures ∙ c.if-is_empty.false in
    absurd (cc clash))
