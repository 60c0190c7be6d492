-- The answers to the goals of `laws::the_store_holds_what_the_machine_sets`.
use Rattle.launcher_laws.proofs.LastingLemmas.{lasted}
use Rattle.launcher_laws.proofs.laws.the_store_holds_what_the_machine_sets.Goals as goal

pub returns : goal.returns
returns g c header calls stores journal first last turns = lasted g.T.SettingStore.holds header calls stores journal c.args.store.now first last turns
