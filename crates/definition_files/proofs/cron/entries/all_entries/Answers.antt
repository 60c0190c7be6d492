-- The goals of `all_entries` that the prover leaves open.
use Rattle.std.proofs.Common.{◌≡◌, ◌∙◌, ap}
use Rattle.std.proofs.lemmas.Result.{IfOk-weaker}
use Rattle.definition_files.specs.Entries as spec
use Rattle.definition_files.specs.declared.cron.entries.Part.TheVariants.{Minute, Hour, Month}
use Rattle.definition_files.proofs.EntriesLemmas.{all-times}
use Rattle.definition_files.proofs.cron.entries.all_entries.Goals as goal

pub returns : goal.returns
returns c =
    IfOk-weaker c.times-3.result (λ made. made.items ≡ spec.times Minute (spec.choices c.args.fields.now.minutes) c.in_ok-hours.hours.items)
    (λ entries. entries.items ≡ spec.entries_of c.args.fields.now)
    (λ made is. is
    ∙ ap (λ entries. spec.times Minute (spec.choices c.args.fields.now.minutes) entries) c.in_ok-hours.ensures
    ∙ ap (λ entries. spec.times Minute (spec.choices c.args.fields.now.minutes) (spec.times Hour (spec.choices c.args.fields.now.hours) entries)) c.in_ok-months.ensures
    ∙ ap (λ entries. spec.times Minute (spec.choices c.args.fields.now.minutes) (spec.times Hour (spec.choices c.args.fields.now.hours)
    (spec.times Month (spec.choices c.args.fields.now.months) entries))) c.in_ok-days.ensures
    ∙ all-times c.args.fields.now)
    c.times-3.ensures
