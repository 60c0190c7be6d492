-- Nothing was asked if nothing was wanted.
use Rattle.std.proofs.Common.{sym, subst}
use Rattle.outside.specs.Stores.{AreTold, store_calls}
use Rattle.outside.proofs.AskLemmas.{told_nothing}
use Rattle.outside.proofs.asking.ask_store.Goals as goal

pub returns-else-writes_setting-clause-told : goal.returns-else-writes_setting-clause-told
returns-else-writes_setting-clause-told g c =
    subst (λ b. AreTold (g.T.SettingStore.told c.args.store.now) (store_calls b c.args.label.now c.args.changed _) (g.T.SettingStore.told c.args.store.now)) (sym c.if-writes_setting.false) (told_nothing _)
