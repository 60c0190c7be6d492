-- The answers to the goals of `laws::a_replay_writes_what_was_replied`.
use Rattle.launcher_laws.proofs.ReplaysLemmas.{replayed}
use Rattle.launcher_laws.proofs.laws.a_replay_writes_what_was_replied.Goals as goal

pub returns : goal.returns
returns g c header calls stores first last turns bytes = replayed g.T.SettingStore.holds header calls stores c.args.store.now first last turns bytes
