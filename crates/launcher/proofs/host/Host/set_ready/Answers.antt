-- The setting, and then what it orders.
use Rattle.std.proofs.Common.{ap, refl, ◌∙◌}
use Rattle.loaded_jobs.specs.SettingChanges.{set_of}
use Rattle.launcher.proofs.LoadTurnsLemmas.{named-before}
use Rattle.launcher.proofs.SetTurnsLemmas.{short_set}
use Rattle.launcher.proofs.host.Host.set_ready.Goals as goal

pub returns-clause-made : goal.returns-clause-made
returns-clause-made g c = λ s store line written noted led keeps none.
    let is = c.commit_set.ensures.changes s store keeps none in
    let setting = c.args.ready.setting in
    let done = c.finish.ensures.finished c.args.self.now.table s (set_of setting.label setting.disabled c.args.ready.unload store) line written noted (short_set setting.label setting.disabled c.args.ready.unload store) led keeps
    (record { kept = is.kept; accepted = ap (λ o. o.refusal) is.outcome; orders = ap (λ o. o.orders) is.outcome }) in
    record {
      turn = done.turn;
      numbers = named-before c.args.self.now.table done.turn.names (done.turn.numbers refl).once (done.names_are ∙ c.commit_set.ensures.names);
    }
