-- The answers to the goals of `lists::entries`.
use Rattle.std.proofs.Common.{take, ◌++◌, [], ◌∷◌, sym, ap, subst₂, ◌∙◌, ◌+◌, ◌≡◌, ◌<◌, Err, length, subst}
use Rattle.std.specs.List.{AllZip}
use Rattle.std.proofs.lemmas.List.{take_more}
use Rattle.sqlite.specs.Order.{Row}
use Rattle.override_store.specs.declared.StoreFault.TheVariants.{Foreign}
use Rattle.override_store.proofs.AnswerLemmas.{zip_push}
use Rattle.override_store.specs.Settings.{IsEntry}
use Rattle.override_store.proofs.lists.entries.Goals as goal

pub loop-row-preserved : goal.loop-row-preserved
loop-row-preserved c =
    let rows = c.args.rows.now in
    let at = c.loop-row.row-index in
    let more : take (at + 1) rows ≡ take at rows ++ c.row-item.result ∷ [] = take_more rows at c.row-item.result c.loop-row-test.true ∙ ap (λ r. take at rows ++ r ∷ []) (sym c.row-item.is) in
    subst₂ (AllZip IsEntry) (sym more) (sym c.in-Ok-push.ensures.items) (zip_push IsEntry (take at rows) c.loop-row.all.items c.row-item.result c.in-Ok.one c.loop-row.invariant c.in-Ok.ensures.ok)

pub returns-in-Err-clause-foreign : goal.returns-in-Err-clause-foreign
returns-in-Err-clause-foreign c long refused =
    let row = c.row-item.result in
    let at = c.loop-row.row-index in
    let low : 0 < length row = subst (λ (r : Row). 0 < length r) (sym c.row-item.is) (long at row c.loop-row-test.true) in
    let fault : c.in-Err.fault ≡ Foreign = cc in
    (at, row, c.loop-row-test.true, sym c.row-item.is, c.in-Err.ensures.foreign low (ap Err fault))
