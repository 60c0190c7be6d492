-- What came, with its reply.
use Rattle.std.proofs.Common.{Option, Some, refl, sym, subst}
use Rattle.history_model.specs.Labels.{Label}
use Rattle.loaded_jobs.specs.Loads.{refused_with}
use Rattle.launcher.specs.Hosts.{Receives, label_asked}
use Rattle.launcher.specs.LoadTurns.{stamps_after, standing}
use Rattle.launcher.proofs.AcceptingLemmas.{unloading}
use Rattle.launcher.proofs.HostsLemmas.{as_replied}
use Rattle.launcher.proofs.ReceivingLemmas.{received_once}
use Rattle.launcher.proofs.host.Host.receive_at_once.Goals as goal

pub returns-clause-turn : goal.returns-clause-turn
returns-clause-turn g c = λ incoming once.
    let took = c.apply-answer in
    let old = standing c.args.self.now.table (g.E.Edge.told c.args.self.now.edge) (g.T.SettingStore.told c.args.self.now.store) c.args.self.now.journal in
    let new = standing took.new.self.table (g.E.Edge.told took.new.self.edge) old.stores took.new.self.journal in
    let held = g.T.SettingStore.holds c.args.self.now.store in
    record {
      receives =
          subst (λ store. Receives (Some incoming) c.told.result.refusal c.told.result.text old (standing new.table new.calls (g.T.SettingStore.told store) new.journal) held (g.T.SettingStore.holds store)) (sym took.ensures.store)
          (as_replied (Some incoming) c.told.result.refusal (refused_with took.result) c.told.result.text c.told.result.text old new held held c.told.ensures.refusal refl
          (received_once incoming c.args.what.now once took.result c.told.result.text old.table new.table old.calls new.calls old.stores old.journal new.journal held took.ensures.turn took.ensures.text c.told.ensures.text took.ensures.uncalled));
      stamped = λ s keeps stamps had.
          subst (λ store. g.T.SettingStore.stamped store (stamps_after (label_asked (Some incoming)) c.told.result.refusal s.reading.wall stamps)) (sym c.apply-answer.ensures.store)
          (subst (λ (label : Option Label). g.T.SettingStore.stamped c.args.self.now.store (stamps_after label c.told.result.refusal s.reading.wall stamps)) (sym once.unset) had);
      quiet = c.told.ensures.quiet;
      loaded = unloading (Some incoming) c.told.result.refusal once.unloaded;
    }
