-- The answers to the goals of `laws::a_store_opened_again_holds_the_same`.
use Rattle.sqlite.specs.Held.{state}
use Rattle.override_store.proofs.AgainLemmas.{held_on}
use Rattle.override_store.proofs.laws.a_store_opened_again_holds_the_same.Goals as goal

pub returns : goal.returns
returns g c = held_on (state g.S.Store c.args.store.now) (state g.R.Store c.args.again.now)
