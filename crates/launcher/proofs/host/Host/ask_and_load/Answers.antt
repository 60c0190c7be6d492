-- The load was made, after the outside answered well and its line was written.
use Rattle.std.proofs.Common.{◌&&◌, false, ap, subst, sym, ◌∙◌}
use Rattle.history_model.specs.Step.{set_if}
use Rattle.loaded_jobs.specs.Loads.{refusal_outside, described_in}
use Rattle.outside.specs.Asking.{Asks, told_of}
use Rattle.outside.specs.Stores.{HoldsAfter, stamp_if}
use Rattle.launcher.specs.JournaledLines.{load_line}
use Rattle.launcher.proofs.LoadTurnsLemmas.{clash}
use Rattle.launcher.proofs.host.Host.ask_and_load.Goals as goal

pub returns-in-None-clause-ends : goal.returns-in-None-clause-ends
returns-in-None-clause-ends g c =
    let outside = c.ask_outside-outside.result in
    let ready = c.args.ready in
    let mid = g.E.Edge.told c.ask_outside-outside.new.edge in
    let before = told_of (g.E.Edge.told c.args.self.now.edge) (g.T.SettingStore.told c.args.self.now.store) in
    let after = told_of mid (g.T.SettingStore.told c.load_ready.new.self.store) in
    let asked = subst (λ store. Asks c.job.result c.def.result.now c.args.load.now.writes_setting c.reading-changed.result.wall outside before (told_of mid (g.T.SettingStore.told store))) (sym c.load_ready.ensures.store)
    c.ask_outside-outside.ensures.outside in
    record {
      mid = mid;
      asks = subst (λ j. Asks j (described_in ready) c.args.load.now.writes_setting c.args.self.now.table.reading.wall outside before after) c.job.ensures
          (subst (λ d. Asks c.job.result d c.args.load.now.writes_setting c.args.self.now.table.reading.wall outside before after) c.def.ensures
          (subst (λ n. Asks c.job.result c.def.result.now c.args.load.now.writes_setting n outside before after) (ap (λ r. r.wall) c.reading-changed.ensures.last) asked));
      answer = c.refused_outside-refusal.ensures ∙ ap (λ d. refusal_outside d c.args.load.now.writes_setting outside.bind outside.store) c.def-2.ensures;
      refused = λ r some. clash c.refused_outside-refusal.result r c.in-None.is some;
      made = λ none s force bind store led keeps remains.
          c.load_ready.ensures.made s force bind store (load_line c.args.load.now outside) c.args.self.now.journal c.note_load.ensures led keeps remains;
    }

pub returns-in-None-clause-stored : goal.returns-in-None-clause-stored
returns-in-None-clause-stored g c =
    let outside = c.ask_outside-outside.result in
    let wanted = c.args.load.now.writes_setting && (outside.bind && outside.store) in
    subst (λ store. HoldsAfter g.T.SettingStore.holds (set_if wanted (described_in c.args.ready).label false) c.args.self.now.store store) (sym c.load_ready.ensures.store)
    (subst (λ d. HoldsAfter g.T.SettingStore.holds (set_if wanted d.label false) c.args.self.now.store c.ask_outside-outside.new.store) c.def.ensures c.ask_outside-outside.ensures.stored)

pub returns-in-None-clause-stamped : goal.returns-in-None-clause-stamped
returns-in-None-clause-stamped g c =
    let outside = c.ask_outside-outside.result in
    let wanted = c.args.load.now.writes_setting && (outside.bind && outside.store) in
    subst (λ store. HoldsAfter g.T.SettingStore.stamped (stamp_if wanted (described_in c.args.ready).label c.args.self.now.table.reading.wall) c.args.self.now.store store) (sym c.load_ready.ensures.store)
    (subst (λ d. HoldsAfter g.T.SettingStore.stamped (stamp_if wanted d.label c.args.self.now.table.reading.wall) c.args.self.now.store c.ask_outside-outside.new.store) c.def.ensures
    (subst (λ n. HoldsAfter g.T.SettingStore.stamped (stamp_if wanted c.def.result.now.label n) c.args.self.now.store c.ask_outside-outside.new.store) (ap (λ r. r.wall) c.reading-changed.ensures.last) c.ask_outside-outside.ensures.stamped))
