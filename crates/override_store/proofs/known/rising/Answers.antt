-- The answers to the goals of `known::rising`.
use Rattle.std.proofs.Common.{◌≡◌, ◌+◌, ◌++◌, [], ◌∷◌, take, ap, sym, ◌∙◌}
use Rattle.std.proofs.lemmas.List.{map-append, take_more}
use Rattle.override_store.specs.declared.known.Known.{Known}
use Rattle.override_store.specs.KnownSettings.{settings_of}
use Rattle.override_store.proofs.known.rising.Goals as goal

pub loop-one-preserved : goal.loop-one-preserved
loop-one-preserved c =
    let known = c.args.known.now in
    let at = c.loop-one.one-index in
    let item = c.one-item.result in
    let more : take (at + 1) known ≡ take at known ++ item ∷ [] = take_more known at item c.loop-one-test.true ∙ ap (λ (k : Known). take at known ++ k ∷ []) (sym c.one-item.is) in
    c.in-Ok-push.ensures.items ∙ ap (λ xs. xs ++ c.in-Ok.copy ∷ []) c.loop-one.invariant ∙ ap (λ s. settings_of (take at known) ++ s ∷ []) c.in-Ok.ensures
    ∙ sym (map-append (λ (k : Known). k.setting) (take at known) (item ∷ [])) ∙ ap settings_of (sym more)
