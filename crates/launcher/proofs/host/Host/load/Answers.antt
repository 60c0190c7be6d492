-- The turn of a load, asked about or not.
use Rattle.std.proofs.Common.{◌≡◌, Bool, true, false, Some, sym, ap, subst, ◌∙◌}
use Rattle.std.specs.Prelude.{if◌then◌else◌}
use Rattle.std.proofs.lemmas.Bool.{false≢true}
use Rattle.history_model.specs.declared.Refusal.TheVariants.{NoMemory}
use Rattle.history_model.specs.Machine.{State}
use Rattle.history_model.specs.Acceptance.{refusal_in}
use Rattle.loaded_jobs.specs.StandsFor.{KeepsState}
use Rattle.loaded_jobs.specs.Loads.{described_in, refused_with}
use Rattle.job_table.specs.LoadOfBytes.{IsReadAndAdmitted, load_of_bytes}
use Rattle.launcher.specs.declared.loading.Loaded.{Loaded}
use Rattle.launcher.specs.LoadTurns.{LoadTurnOf, is_memory, label_written, settings_after, stamps_after, standing}
use Rattle.launcher.proofs.LoadTurnsLemmas.{load_ended, load_sets, load_stamps, never_called, not_memory, told_unless, unstamped}
use Rattle.job_defs.proofs.LabelLemmas.{label_read}
use Rattle.launcher.proofs.host.Host.load.Goals as goal
use Rattle.child_edge.specs.Calls.{is_done}

pub ask_and_load-ended-requires-clause-label : goal.ask_and_load-ended-requires-clause-label
ask_and_load-ended-requires-clause-label g c = label_read c.as_bytes.result.now (described_in c.in-Ok.ready) c.in-Ok.ensures.admitted.read

pub returns-in-Ok-loaded-clause-turn : goal.returns-in-Ok-loaded-clause-turn
returns-in-Ok-loaded-clause-turn g c = λ other s led keeps.
    let admitted = subst (λ b. IsReadAndAdmitted c.args.self.now.table b c.args.load.now.writes_setting c.args.load.now.force (described_in c.in-Ok.ready)) (c.as_bytes.ensures.value ∙ c.as_str.ensures) c.in-Ok.ensures.admitted in
    let outside = c.ask_and_load-ended.result.outside in
    let told = g.E.Edge.told c.args.self.now.edge in
    let told' = g.E.Edge.told c.ask_and_load-ended.new.self.edge in
    let stored = g.T.SettingStore.told c.args.self.now.store in
    let stored' = g.T.SettingStore.told c.ask_and_load-ended.new.self.store in
    let new = c.ask_and_load-ended.new.self.table in
    let written = c.args.self.now.journal in
    let written' = c.ask_and_load-ended.new.self.journal in
    let done = load_ended s c.args.load.now outside c.args.self.now.table c.prepare_load.new.self new c.in-Ok.ready told told' stored stored' written written'
    admitted c.in-Ok.ensures.writes_setting c.in-Ok.ensures.same c.in-Ok.ensures.rows led keeps c.ask_and_load-ended.result.refusal c.ask_and_load-ended.ensures.ends in
    let request = c.args.load.now in
    let before = standing c.args.self.now.table told stored written in
    let after = standing new told' stored' written' in
    subst (λ a. LoadTurnOf s request a (refused_with c.reply_to.result.reply) before after) (sym c.reply_to.ensures.outside)
    (subst (λ r. LoadTurnOf s request outside r before after) (sym c.reply_to.ensures.reply) done)

pub returns-in-Ok-loaded-clause-stored : goal.returns-in-Ok-loaded-clause-stored
returns-in-Ok-loaded-clause-stored g c = λ s keeps holds.
    let admitted = subst (λ b. IsReadAndAdmitted c.args.self.now.table b c.args.load.now.writes_setting c.args.load.now.force (described_in c.in-Ok.ready)) (c.as_bytes.ensures.value ∙ c.as_str.ensures) c.in-Ok.ensures.admitted in
    let outside = c.ask_and_load-ended.result.outside in
    let ends = c.ask_and_load-ended.ensures.ends in
    let store = c.ask_and_load-ended.new.self.store in
    let sets = load_sets s c.args.load.now.def c.args.load.now.writes_setting c.args.load.now.force outside c.args.self.now.table (described_in c.in-Ok.ready) c.ask_and_load-ended.result.refusal admitted keeps ends.answer
    (λ none. ends.asks.bind ∙ ap (λ h. if h then is_done ends.asks.bound else true) none) ends.asks.store in
    let kept = subst (g.T.SettingStore.holds store) (sym sets) (c.ask_and_load-ended.ensures.stored s.settings holds) in
    subst (λ a. g.T.SettingStore.holds store (settings_after (refused_with c.reply_to.result.reply) s (load_of_bytes c.args.load.now.def c.args.load.now.writes_setting c.args.load.now.force a.bind a.store))) (sym c.reply_to.ensures.outside)
    (subst (λ r. g.T.SettingStore.holds store (settings_after r s (load_of_bytes c.args.load.now.def c.args.load.now.writes_setting c.args.load.now.force outside.bind outside.store))) (sym c.reply_to.ensures.reply) kept)

pub returns-in-Err-clause-turn : goal.returns-in-Err-clause-turn
returns-in-Err-clause-turn g c = λ other s led keeps.
    let told = g.E.Edge.told c.args.self.now.edge in
    let stored = g.T.SettingStore.told c.args.self.now.store in
    let new = c.prepare_load.new.self in
    let is = c.uncalled-in-Err.ensures in
    let memory : is_memory (Some c.in-Err.refusal) ≡ false = subst (λ (l : Loaded). is_memory (refused_with l.reply) ≡ false) is other in
    let refused = told_unless c.in-Err.refusal
    ((s : State) (bind store : Bool) → KeepsState c.args.self.now.table s → refusal_in s (load_of_bytes c.as_bytes.result.now c.args.load.now.writes_setting c.args.load.now.force bind store) ≡ Some c.in-Err.refusal) c.in-Err.ensures.refused memory in
    let before = standing c.args.self.now.table told stored c.args.self.now.journal in
    let after = standing new told stored c.note_load_refused.new.journal in
    subst (λ (l : Loaded). LoadTurnOf s c.args.load.now l.outside (refused_with l.reply) before after) (sym is)
    (never_called s c.args.load.now c.in-Err.refusal c.args.self.now.table new told stored c.args.self.now.journal c.note_load_refused.new.journal c.in-Err.ensures.rows
    (λ bind store. subst (λ b. refusal_in s (load_of_bytes b c.args.load.now.writes_setting c.args.load.now.force bind store) ≡ Some c.in-Err.refusal) (c.as_bytes.ensures.value ∙ c.as_str.ensures) (refused s bind store keeps))
    (c.note_load_refused.ensures.noted memory) (c.in-Err.ensures.same s keeps) led)

pub returns-in-Ok-loaded-clause-silent : goal.returns-in-Ok-loaded-clause-silent
returns-in-Ok-loaded-clause-silent g c = λ memory.
    let outside = c.ask_and_load-ended.result.outside in
    let told = ap is_memory c.reply_to.ensures.reply ∙ ap is_memory c.ask_and_load-ended.ensures.ends.answer ∙ not_memory (described_in c.in-Ok.ready) c.args.load.now.writes_setting outside.bind outside.store in
    absurd (false≢true (sym told ∙ memory))

pub returns-in-Err-clause-silent : goal.returns-in-Err-clause-silent
returns-in-Err-clause-silent g c = λ memory.
    c.note_load_refused.ensures.silent (subst (λ (l : Loaded). is_memory (refused_with l.reply) ≡ true) c.uncalled-in-Err.ensures memory)

pub returns-in-Ok-loaded-clause-stamped : goal.returns-in-Ok-loaded-clause-stamped
returns-in-Ok-loaded-clause-stamped g c = λ s keeps stamps had.
    let admitted = subst (λ b. IsReadAndAdmitted c.args.self.now.table b c.args.load.now.writes_setting c.args.load.now.force (described_in c.in-Ok.ready)) (c.as_bytes.ensures.value ∙ c.as_str.ensures) c.in-Ok.ensures.admitted in
    let outside = c.ask_and_load-ended.result.outside in
    let ends = c.ask_and_load-ended.ensures.ends in
    let stamped = g.T.SettingStore.stamped c.ask_and_load-ended.new.self.store in
    let label = label_written c.args.load.now in
    let wall = s.reading.wall in
    let stored = (rw (ap (λ r. r.wall) (c.in-Ok.ensures.same s keeps).reading) at c.ask_and_load-ended.ensures.stamped) stamps had in
    let is = load_stamps c.args.load.now outside (described_in c.in-Ok.ready) c.ask_and_load-ended.result.refusal wall stamps admitted.read ends.answer
    (λ none. ends.asks.bind ∙ ap (λ h. if h then is_done ends.asks.bound else true) none) in
    subst (λ r. stamped (stamps_after label r wall stamps)) (sym c.reply_to.ensures.reply) (subst stamped (sym is) stored)

pub returns-in-Err-clause-stamped : goal.returns-in-Err-clause-stamped
returns-in-Err-clause-stamped g c = λ s keeps stamps had.
    let stamped = g.T.SettingStore.stamped c.args.self.now.store in
    let label = label_written c.args.load.now in
    let wall = s.reading.wall in
    subst (λ (l : Loaded). stamped (stamps_after label (refused_with l.reply) wall stamps)) (sym c.uncalled-in-Err.ensures) (subst stamped (sym (unstamped label c.in-Err.refusal wall stamps)) had)

pub returns-in-Err-loaded-clause-stamped : goal.returns-in-Err-loaded-clause-stamped
returns-in-Err-loaded-clause-stamped g c = λ s keeps stamps had.
    let stamped = g.T.SettingStore.stamped c.args.self.now.store in
    let label = label_written c.args.load.now in
    let wall = s.reading.wall in
    subst (λ (l : Loaded). stamped (stamps_after label (refused_with l.reply) wall stamps)) (sym c.uncalled.ensures) (subst stamped (sym (unstamped label NoMemory wall stamps)) had)
