-- What is printed of the one job with the label.
use Rattle.std.proofs.Common.{◌≡◌, not, ap, sym, ◌∙◌}
use Rattle.std.specs.List.{filter}
use Rattle.history_model.specs.declared.Refusal.TheVariants.{BadRequest}
use Rattle.history_model.specs.Search.{first}
use Rattle.history_model.specs.Machine.{sets, flag_in, is_disabled}
use Rattle.history_model.specs.Acceptance.{refused_if, refusal_absent}
use Rattle.history_model.specs.Texts.{print_text, printed}
use Rattle.history_model.specs.Clock.{definition_of}
use Rattle.loaded_jobs.proofs.jobs.Jobs.print.Goals as goal

pub returns-in_default-clause-refused : goal.returns-in_default-clause-refused
returns-in_default-clause-refused c = λ s keeps.
    λ i. refused_if (not ((sym c.is_label.ensures ∙ c.if-not-is_label.false) i)) BadRequest (refusal_absent (c.in_default.ensures s keeps i))

pub returns-in-Ok-clause-text : goal.returns-in-Ok-clause-text
returns-in-Ok-clause-text c = λ s keeps.
    let label = c.args.label.now in
    let there = c.in-Some.ensures s keeps in
    let row = c.shown.ensures there.past there.keeps in
    let flag : c.is_disabled-disabled.result ≡ is_disabled s label (definition_of there.past).disabled = c.is_disabled-disabled.ensures
    ∙ (λ i. flag_in (first (filter (sets label) c.args.self.now.settings.items)) (c.disabled.ensures i)) ∙ ap (λ o. flag_in o c.in-Some.job_slot.now.def.disabled) (keeps.settings label)
    ∙ ap (λ d. flag_in (first (filter (sets label) s.settings)) d.disabled) there.described in (
      (λ i. refused_if (not ((sym c.is_label.ensures ∙ c.if-not-is_label.false) i)) BadRequest (refusal_absent (there.is i))),
      c.in-Ok.ensures ∙ (λ i. print_text label (row i) (flag i)) ∙ ap (printed s label) (sym there.is),
    )
