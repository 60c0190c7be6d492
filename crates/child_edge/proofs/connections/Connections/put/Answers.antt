-- One comes under a free number.
use Rattle.child_edge.proofs.PlacesLemmas.{one_comes, takes_same}
use Rattle.child_edge.proofs.connections.Connections.put.Goals as goal

pub returns-in-Ok : goal.returns-in-Ok
returns-in-Ok g c = λ none. one_comes c.args.self.now.held c.insert.new.self c.args.key c.args.connection none c.in-Ok.ensures.updates.0

pub returns-in-Err : goal.returns-in-Err
returns-in-Err g c = λ none. takes_same c.args.self.now.held c.insert.new.self c.in-Err.ensures.err
