-- The setting is taken out, and put in after `count` others.
use Rattle.std.proofs.Common.{◌≡◌, ◌+◌, ◌<◌, ◌++◌, take, drop, length, ap, sym, subst, ◌∙◌, arith}
use Rattle.std.specs.List.{insert}
use Rattle.std.proofs.lemmas.Bool.Decides.{nat_tests}
use Rattle.loaded_jobs.proofs.SettingOrderLemmas.{moved, unmoved}
use Rattle.loaded_jobs.proofs.setting_order.move_back.Goals as goal

pub returns-then-count-eq0-clause-moved : goal.returns-then-count-eq0-clause-moved
returns-then-count-eq0-clause-moved c =
    let xs = c.args.settings.now.items in
    let left = c.args.left in
    let is = c.if-count-eq0.true in
    let none : c.args.count ≡ 0 = grind (arith, nat_tests, is) in
    subst (λ n. drop left xs ≡ take n (drop (left + 1) xs) ++ (take 1 (drop left xs) ++ drop n (drop (left + 1) xs))) (sym none) (unmoved xs left)

pub returns-clause-moved : goal.returns-clause-moved
returns-clause-moved c =
    let xs = c.args.settings.now.items in
    let left = c.args.left in
    let count = c.args.count in
    let setting = c.remove-setting.result in
    let room = c.requires in
    let within : left < length xs = omega (arith, room) in
    ap (drop left) (c.in-Ok.ensures.items ∙ ap (λ ys. insert ys (left + count) setting) c.remove-setting.ensures.items) ∙ (moved xs left count setting within c.remove-setting.ensures.value).1
