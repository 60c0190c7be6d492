-- The answers to the goals of `laws::a_store_opened_again_has_the_last_settings`.
use Rattle.sqlite.specs.Held.{state}
use Rattle.override_store.specs.declared.lasting_settings.LastingSettings.{LastingSettings}
use Rattle.launcher_laws.proofs.ReopenedLemmas.{reopened_last}
use Rattle.launcher_laws.proofs.laws.a_store_opened_again_has_the_last_settings.Goals as goal

pub returns : goal.returns
returns g c header calls stores journal first last turns new received list held at_end =
    reopened_last g.S.Store (λ (s : LastingSettings _ _). s.pattern) (λ s. s.store) (λ s. s.known.items) header calls stores journal c.args.store.now first last turns at_end (state g.R.Store c.args.again.now) new received list held
