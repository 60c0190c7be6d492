-- An older setting of the label is dropped; another is at its place among the newer ones.
use Rattle.std.proofs.Common.{◌≡◌, ◌+◌, ◌-◌, ◌++◌, take, drop, length, ap, sym, subst, ◌∙◌, arith}
use Rattle.std.specs.List.{filter, position}
use Rattle.std.proofs.lemmas.Slice.{between_to_end}
use Rattle.history_model.specs.Search.{first}
use Rattle.history_model.specs.Machine.{sets}
use Rattle.loaded_jobs.specs.TableSettings.{AreSet, IsPlaceFor}
use Rattle.loaded_jobs.proofs.FirstLemmas.{first-where}
use Rattle.loaded_jobs.proofs.SettingOrderLemmas.{keeps-found, keeps-behind, order-put, one-there, removed}
use Rattle.loaded_jobs.proofs.setting_order.settle.Goals as goal

pub returns-in-Ok-clause-kept : goal.returns-in-Ok-clause-kept
returns-in-Ok-clause-kept c = λ label.
    let xs = c.args.settings.now.items in
    let left = c.args.left in
    let back = drop (left + 1) xs in
    let lent = c.deref.result.now in
    let x = c.index.result.now in
    let k = c.in-Ok.field-0 in
    let part : take (length lent - (left + 1)) (drop (left + 1) lent) ≡ back = between_to_end lent (left + 1) (length lent) (omega arith) ∙ ap (drop (left + 1)) c.deref.ensures.value in
    let found = c.in-Ok.ensures.found ∙ (λ i. position (sets (c.as_str.ensures i)) (part i)) in
    ap (λ ys. first (filter (sets label) ys)) (ap (drop left) c.remove-older.ensures.items ∙ (removed xs left c.requires.inside).1)
    ∙ keeps-found x back k (first-where (sets x.label) back k found) label
    ∙ ap (λ ys. first (filter (sets label) (back ++ ys))) (sym (one-there xs left x c.requires.inside c.index.ensures))

pub returns-in-Err-clause-kept : goal.returns-in-Err-clause-kept
returns-in-Err-clause-kept c = λ label.
    let xs = c.args.settings.now.items in
    let left = c.args.left in
    let back = drop (left + 1) xs in
    let lent = c.deref.result.now in
    let x = c.index.result.now in
    let k = c.in-Err.place in
    let part : take (length lent - (left + 1)) (drop (left + 1) lent) ≡ back = between_to_end lent (left + 1) (length lent) (omega arith) ∙ ap (drop (left + 1)) c.deref.ensures.value in
    let place = subst (λ l. IsPlaceFor l back k) c.as_str.ensures (subst (λ ys. IsPlaceFor c.as_str.result.now ys k) part c.in-Err.ensures.absent) in
    let one = one-there xs left x c.requires.inside c.index.ensures in
    ap (λ ys. first (filter (sets label) ys)) (c.move_back.ensures.moved ∙ ap (λ ys. take k back ++ (ys ++ drop k back)) one)
    ∙ keeps-behind x back k place label
    ∙ ap (λ ys. first (filter (sets label) (back ++ ys))) (sym one)

pub returns-in-Err-clause-order : goal.returns-in-Err-clause-order
returns-in-Err-clause-order c =
    let xs = c.args.settings.now.items in
    let left = c.args.left in
    let back = drop (left + 1) xs in
    let lent = c.deref.result.now in
    let x = c.index.result.now in
    let k = c.in-Err.place in
    let part : take (length lent - (left + 1)) (drop (left + 1) lent) ≡ back = between_to_end lent (left + 1) (length lent) (omega arith) ∙ ap (drop (left + 1)) c.deref.ensures.value in
    let place = subst (λ l. IsPlaceFor l back k) c.as_str.ensures (subst (λ ys. IsPlaceFor c.as_str.result.now ys k) part c.in-Err.ensures.absent) in
    let one = one-there xs left x c.requires.inside c.index.ensures in
    subst AreSet (sym (c.move_back.ensures.moved ∙ ap (λ ys. take k back ++ (ys ++ drop k back)) one)) (order-put x back k place c.requires.order)
