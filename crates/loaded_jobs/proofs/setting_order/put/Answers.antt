-- The setting takes the place of the label's earlier one, or its own place among the others.
use Rattle.std.proofs.Common.{length, ap, sym, subst, ◌∙◌}
use Rattle.std.specs.List.{filter, position}
use Rattle.std.proofs.lemmas.List.Edits.{length-insert}
use Rattle.history_model.specs.Search.{first}
use Rattle.history_model.specs.Machine.{sets}
use Rattle.loaded_jobs.specs.Room.{one_setting_more}
use Rattle.loaded_jobs.specs.TableSettings.{AreSet, IsPlaceFor}
use Rattle.loaded_jobs.proofs.FirstLemmas.{first-where}
use Rattle.loaded_jobs.proofs.SettingLemmas.{set-at}
use Rattle.loaded_jobs.proofs.SettingOrderLemmas.{order-set, order-put, keeps-put, none-set}
use Rattle.loaded_jobs.proofs.setting_order.put.Goals as goal

pub returns-in-Ok-clause-kept : goal.returns-in-Ok-clause-kept
returns-in-Ok-clause-kept c = λ label.
    let items = c.args.settings.now.items in
    let new = c.args.setting in
    set-at new label items c.in-Ok.place (first-where (sets new.label) items c.in-Ok.place (c.in-Ok.ensures.found ∙ (λ i. position (sets (c.as_str.ensures i)) (c.deref.ensures.value i))))

pub returns-in-Ok-clause-order : goal.returns-in-Ok-clause-order
returns-in-Ok-clause-order c =
    let items = c.args.settings.now.items in
    let new = c.args.setting in
    order-set new items c.in-Ok.place (first-where (sets new.label) items c.in-Ok.place (c.in-Ok.ensures.found ∙ (λ i. position (sets (c.as_str.ensures i)) (c.deref.ensures.value i)))) c.requires.order

pub returns-in-Ok-insert-clause-kept : goal.returns-in-Ok-insert-clause-kept
returns-in-Ok-insert-clause-kept c = λ label.
    let items = c.args.settings.now.items in
    let new = c.args.setting in
    let k = c.in-Err.place in
    let place = subst (λ l. IsPlaceFor l items k) c.as_str.ensures (subst (λ xs. IsPlaceFor c.as_str.result.now xs k) c.deref.ensures.value c.in-Err.ensures.absent) in
    ap (λ xs. first (filter (sets label) xs)) c.in-Ok-insert.ensures.items ∙ keeps-put new items k place label

pub returns-in-Ok-insert-clause-held : goal.returns-in-Ok-insert-clause-held
returns-in-Ok-insert-clause-held c =
    let items = c.args.settings.now.items in
    let new = c.args.setting in
    let k = c.in-Err.place in
    let place = subst (λ l. IsPlaceFor l items k) c.as_str.ensures (subst (λ xs. IsPlaceFor c.as_str.result.now xs k) c.deref.ensures.value c.in-Err.ensures.absent) in
    ap length c.in-Ok-insert.ensures.items ∙ length-insert items k new place.bound ∙ ap (λ found. one_setting_more found (length items)) (none-set new.label items k place)

pub returns-in-Ok-insert-clause-order : goal.returns-in-Ok-insert-clause-order
returns-in-Ok-insert-clause-order c =
    let items = c.args.settings.now.items in
    let new = c.args.setting in
    let k = c.in-Err.place in
    let place = subst (λ l. IsPlaceFor l items k) c.as_str.ensures (subst (λ xs. IsPlaceFor c.as_str.result.now xs k) c.deref.ensures.value c.in-Err.ensures.absent) in
    subst AreSet (sym c.in-Ok-insert.ensures.items) (order-put new items k place c.requires.order)
