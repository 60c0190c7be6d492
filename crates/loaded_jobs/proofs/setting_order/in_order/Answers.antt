-- One more of the settings is among those that are in order.
use Rattle.std.proofs.Common.{◌≡◌, ◌-◌, suc, take, drop, reverse, ◌∙◌, subst, arith}
use Rattle.loaded_jobs.specs.StandsFor.{KeepsSettings}
use Rattle.loaded_jobs.proofs.SettingOrderLemmas.{keeps-step, parts, as-long}
use Rattle.loaded_jobs.proofs.setting_order.in_order.Goals as goal

pub loop-left-preserved : goal.loop-left-preserved
loop-left-preserved c =
    let inv = c.loop-left.invariant in
    let xs = c.loop-left.settings.items in
    let new = c.settle.new.settings.items in
    let overrides = c.args.overrides.items in
    let left = c.loop-left.left in
    let before = left - 1 in
    let some = c.loop-left-test.true in
    let bound = inv.bound in
    let more : left ≡ suc before = omega (arith, some) in
    let same = subst (λ n. take n xs ≡ take n overrides) more inv.rest in
    record {
      bound = as-long before xs new (omega (arith, bound)) c.settle.ensures.rest;
      rest = c.settle.ensures.rest ∙ (parts before xs overrides same).0;
      kept = keeps-step xs new overrides before same (subst (λ n. KeepsSettings (drop n xs) (reverse (drop n overrides))) more inv.kept) c.settle.ensures.kept;
      order = c.settle.ensures.order;
    }
