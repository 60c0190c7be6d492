-- The answers to the goals of `lists::all_known`.
use Rattle.std.proofs.Common.{take, ◌++◌, [], ◌∷◌, sym, ap, subst₂, ◌∙◌, ◌+◌, ◌≡◌}
use Rattle.std.specs.List.{AllZip}
use Rattle.std.proofs.lemmas.List.{take_more}
use Rattle.override_store.proofs.AnswerLemmas.{zip_push}
use Rattle.override_store.specs.KnownSettings.{IsKnown}
use Rattle.override_store.proofs.lists.all_known.Goals as goal

pub loop-row-preserved : goal.loop-row-preserved
loop-row-preserved c =
    let rows = c.args.rows.now in
    let at = c.loop-row.row-index in
    let more : take (at + 1) rows ≡ take at rows ++ c.row-item.result ∷ [] = take_more rows at c.row-item.result c.loop-row-test.true ∙ ap (λ r. take at rows ++ r ∷ []) (sym c.row-item.is) in
    subst₂ (AllZip IsKnown) (sym more) (sym c.in-Ok-push.ensures.items) (zip_push IsKnown (take at rows) c.loop-row.all.items c.row-item.result c.in-Ok.one c.loop-row.invariant c.in-Ok.ensures.ok)
