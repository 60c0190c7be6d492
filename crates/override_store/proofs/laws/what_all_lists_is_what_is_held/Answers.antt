-- The answers to the goals of `laws::what_all_lists_is_what_is_held`.
use Rattle.std.proofs.Common.{reverse}
use Rattle.sqlite.specs.Held.{state}
use Rattle.override_store.specs.OverrideStores.{setting_rows}
use Rattle.override_store.proofs.AgainLemmas.{same_settings}
use Rattle.override_store.proofs.laws.what_all_lists_is_what_is_held.Goals as goal

pub returns : goal.returns
returns g c settings listed holds told label = same_settings (setting_rows (state g.S.Store c.args.store.now).now.trees) (reverse listed) settings told holds.1 label
