-- By the law of the machine.
use Rattle.round_laws.proofs.ReceivingLemmas.{decided-of}
use Rattle.round_laws.proofs.laws.what_was_spared_changes_nothing.Goals as goal

pub returns : goal.returns
returns g c = λ header calls stores journal first last marks new lasts may.
    decided-of g.T.SettingStore.holds header calls stores journal c.args.store.now first last marks new lasts may
