-- The answers to the goals of `OverrideStore::mend`.
use Rattle.override_store.proofs.OverrideStore.mend.Goals as goal

pub returns : goal.returns
returns g c = rw (← c.self.view_is) c.mended.ensures
