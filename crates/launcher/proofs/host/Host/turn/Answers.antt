-- The flush at the end.
use Rattle.std.proofs.Common.{sym, ◌∙◌}
use Rattle.launcher.specs.Inputs.{input_event}
use Rattle.launcher.proofs.HostsLemmas.{flushed}
use Rattle.launcher.proofs.host.Host.turn.Goals as goal
use Rattle.launcher.specs.LoadTurns.{standing}

pub returns-clause-turn : goal.returns-clause-turn
returns-clause-turn g c =
    let old = standing c.args.self.now.table (g.E.Edge.told c.args.self.now.edge) (g.T.SettingStore.told c.args.self.now.store) c.args.self.now.journal in
    let mid = c.receive-reply.new.self in
    let turn = c.receive-reply.ensures.turn in
    record {
      receives = flushed (input_event c.args.input) c.receive-reply.result.refusal c.receive-reply.result.text old mid.table (g.E.Edge.told mid.edge) (g.T.SettingStore.told mid.store) mid.journal c.flush.new.self
          (g.T.SettingStore.holds c.args.self.now.store) (g.T.SettingStore.holds mid.store) (sym c.is_want.ensures ∙ c.if-is_want.false) turn.receives c.flush.ensures;
      stamped = turn.stamped;
      quiet = turn.quiet;
      loaded = turn.loaded;
    }
