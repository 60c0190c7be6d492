-- The edge let all go, and the file may have been written by it.
use Rattle.std.proofs.Common.{inl, rules, ◌≡◌}
use Rattle.jobd.proofs.round_launcher.RoundLauncherLoopHost.release_all.Goals as goal

pub returns : goal.returns
returns g c =
    let told : g.E.Edge.told c.write_status-is_written.ensures.asks.0 ≡ g.E.Edge.told c.args.self.now.host.edge = search rules in
    inl (c.write_status-is_written.ensures.asks.0, inl told, c.write_status-is_written.ensures.asks.2)
