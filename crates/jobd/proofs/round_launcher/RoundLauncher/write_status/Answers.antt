-- So if it is to be written.
use Rattle.std.proofs.Common.{rules, ◌≡◌}
use Rattle.jobd.proofs.round_launcher.RoundLauncher.write_status.Goals as goal

pub returns-in-Some-clause-asks : goal.returns-in-Some-clause-asks
returns-in-Some-clause-asks g c =
    let told : g.E.Edge.told c.write_by.ensures.asks.0 ≡ g.E.Edge.told c.args.self.now.host.edge = search rules in
    (c.write_by.ensures.asks.0, told, c.write_by.ensures.asks.2)

pub returns-in-Some-clause-handed : goal.returns-in-Some-clause-handed
returns-in-Some-clause-handed g c = c.write_by.ensures.handed
