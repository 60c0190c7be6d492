-- A load, with its reply.
use Rattle.std.proofs.Common.{rules, Option, Some, true, refl, sym, subst}
use Rattle.history_model.specs.declared.Refusal.{Refusal}
use Rattle.ctl_protocol.specs.declared.request.Request.TheVariants as requests
use Rattle.history_model.specs.Step.{outcome}
use Rattle.loaded_jobs.specs.StandsFor.{KeepsState}
use Rattle.loaded_jobs.specs.Loads.{refused_with}
use Rattle.launcher.proofs.HostsLemmas.{as_replied}
use Rattle.launcher.proofs.LoadAskingLemmas.{loaded, load_words}
use Rattle.launcher.proofs.host.Host.ask_load.Goals as goal
use Rattle.launcher.specs.LoadTurns.{label_written, load_event, stamps_after, standing}
use Rattle.launcher.specs.Inputs.{asked}

pub returns : goal.returns
returns g c =
    let old = standing c.args.self.now.table (g.E.Edge.told c.args.self.now.edge) (g.T.SettingStore.told c.args.self.now.store) c.args.self.now.journal in
    let did = c.load-loaded.result in
    let new = standing c.load-loaded.new.self.table (g.E.Edge.told c.load-loaded.new.self.edge) (g.T.SettingStore.told c.load-loaded.new.self.store) c.load-loaded.new.self.journal in
    let before = g.T.SettingStore.holds c.args.self.now.store in
    let after = g.T.SettingStore.holds c.load-loaded.new.self.store in
    record {
      turn = record {
        receives =
            as_replied (Some (asked (requests.Load c.args.load.now))) c.told-reply.result.refusal (refused_with did.reply) c.told-reply.result.text c.told-reply.result.text old new before after c.told-reply.ensures.refusal refl
            (loaded c.args.load.now did.outside (refused_with did.reply) c.told-reply.result.text old new before after c.load-loaded.ensures.memory c.load-loaded.ensures.silent c.load-loaded.ensures.turn
            c.load-loaded.ensures.stored
            (load_words did.reply c.told-reply.result.text (λ s. KeepsState old.table s) (λ s. (outcome s (load_event did.outside c.args.load.now)).text) c.load-loaded.ensures.text c.told-reply.ensures.text));
        stamped = λ s keeps stamps had.
            let label = label_written c.args.load.now in
            subst (λ (r : Option Refusal). g.T.SettingStore.stamped c.load-loaded.new.self.store (stamps_after label r s.reading.wall stamps)) (sym c.told-reply.ensures.refusal) (c.load-loaded.ensures.stamped s keeps stamps had);
        quiet = c.told-reply.ensures.quiet;
        loaded = search rules;
      };
    }
