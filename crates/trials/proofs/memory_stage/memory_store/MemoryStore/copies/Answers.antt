-- The answers to the goals of `memory_stage::memory_store::MemoryStore::copies`.
use Rattle.std.proofs.Common.{◌+◌, ◌≤◌, length, take, ◌++◌, [], ◌∷◌, sym, ap, subst, ◌∙◌}
use Rattle.std.proofs.lemmas.List.{take_more, take_all}
use Rattle.trials.proofs.memory_stage.memory_store.MemoryStore.copies.Goals as goal

pub loop-setting-init : goal.loop-setting-init
loop-setting-init c = c.new-all.ensures.items

pub loop-setting-preserved : goal.loop-setting-preserved
loop-setting-preserved c =
    let held = c.args.self.now.held.items in
    let at = c.loop-setting.setting-index in
    let given = c.deref-setting-items.result.now in
    let all = c.deref-setting-items.ensures.value in
    c.in-Ok.ensures.items ∙ ap (λ l. l ++ c.in_ok-setting.setting ∷ []) c.loop-setting.invariant ∙ ap (λ s. take at held ++ s ∷ []) c.in_ok-setting.ensures
    ∙ ap (λ l. take at l ++ c.setting-item.result ∷ []) (sym all) ∙ ap (λ s. take at given ++ s ∷ []) c.setting-item.is ∙ sym (take_more given at c.setting-item.result c.loop-setting-test.true) ∙ ap (take (at + 1)) all

pub returns : goal.returns
returns c =
    c.loop-setting.invariant ∙ take_all c.loop-setting.setting-index c.args.self.now.held.items (subst (λ l. length l ≤ c.loop-setting.setting-index) c.deref-setting-items.ensures.value c.loop-setting-test.false)
