-- The label's one setting decides.
use Rattle.std.proofs.Common.{ap, sym, ◌∙◌}
use Rattle.std.specs.List.{filter, position}
use Rattle.history_model.specs.Search.{first}
use Rattle.history_model.specs.Machine.{sets, flag_in}
use Rattle.loaded_jobs.proofs.FirstLemmas.{first-where, none-where, first-filter, none-filter}
use Rattle.loaded_jobs.proofs.SettingOrderLemmas.{none-set}
use Rattle.loaded_jobs.proofs.settings.is_disabled.Goals as goal

pub returns-in-Ok : goal.returns-in-Ok
returns-in-Ok c =
    let xs = c.settings.inside.sorted.items in
    let label = c.args.label.now in
    let k = c.in-Ok.place in
    let x = c.index.result.now in
    let found = c.in-Ok.ensures.found ∙ ap (position (sets label)) c.deref.ensures.value in
    ap (λ s. s.disabled) c.index.ensures
    ∙ ap (λ o. flag_in o c.args.otherwise) (sym (first-filter (sets label) xs k x (first-where (sets label) xs k found)))
    ∙ ap (λ v. flag_in (first (filter (sets label) v.items)) c.args.otherwise) c.settings.view_is

pub returns-in-Err : goal.returns-in-Err
returns-in-Err c =
    let ys = c.deref.result.now in
    let label = c.args.label.now in
    ap (λ xs. flag_in (first xs) c.args.otherwise) (sym (none-filter (sets label) ys (none-where (sets label) ys (none-set label ys c.in-Err.field-0 c.in-Err.ensures.absent))))
    ∙ ap (λ zs. flag_in (first (filter (sets label) zs)) c.args.otherwise) (c.deref.ensures.value ∙ ap (λ v. v.items) c.settings.view_is)
