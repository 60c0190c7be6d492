-- A setting, with its reply.
use Rattle.std.proofs.Common.{[], Option, Some, true, sym, subst}
use Rattle.history_model.specs.declared.Refusal.{Refusal}
use Rattle.history_model.specs.Labels.{Label}
use Rattle.loaded_jobs.specs.Loads.{refused_with}
use Rattle.launcher.specs.JournaledLines.{setting_asked}
use Rattle.launcher.specs.LoadTurns.{stamps_after, standing}
use Rattle.launcher.specs.Inputs.{asked}
use Rattle.launcher.proofs.AcceptingLemmas.{set_loads, unloading}
use Rattle.launcher.proofs.HostsLemmas.{as_replied}
use Rattle.launcher.proofs.SettingAskingLemmas.{changed}
use Rattle.launcher.proofs.StampsLemmas.{set_asked}
use Rattle.launcher.proofs.host.Host.ask_set.Goals as goal

pub returns : goal.returns
returns g c =
    let old = standing c.args.self.now.table (g.E.Edge.told c.args.self.now.edge) (g.T.SettingStore.told c.args.self.now.store) c.args.self.now.journal in
    let did = c.set-changed.result in
    let new = standing c.set-changed.new.self.table (g.E.Edge.told c.set-changed.new.self.edge) (g.T.SettingStore.told c.set-changed.new.self.store) c.set-changed.new.self.journal in
    let before = g.T.SettingStore.holds c.args.self.now.store in
    let after = g.T.SettingStore.holds c.set-changed.new.self.store in
    record {
      turn = record {
        receives =
            as_replied (Some (asked (setting_asked c.args.job.now c.args.disabled c.args.unload))) c.done.result.refusal (refused_with did.reply) c.done.result.text [] old new before after c.done.ensures.refusal c.done.ensures.text
            (changed c.args.job.now c.args.disabled c.args.unload did.stored (refused_with did.reply) old new before after c.set-changed.ensures.memory c.set-changed.ensures.silent c.set-changed.ensures.turn c.set-changed.ensures.stored);
        stamped = λ s keeps stamps had.
            let stamped = g.T.SettingStore.stamped c.set-changed.new.self.store in
            let wall = s.reading.wall in
            subst (λ (label : Option Label). stamped (stamps_after label c.done.result.refusal wall stamps)) (sym (set_asked c.args.job.now c.args.disabled c.args.unload))
            (subst (λ (r : Option Refusal). stamped (stamps_after (Some c.args.job.now) r wall stamps)) (sym c.done.ensures.refusal) (c.set-changed.ensures.stamped s keeps stamps had));
        quiet = c.done.ensures.quiet;
        loaded = unloading (Some (asked (setting_asked c.args.job.now c.args.disabled c.args.unload))) c.done.result.refusal (set_loads c.args.job.now c.args.disabled c.args.unload);
      };
    }
