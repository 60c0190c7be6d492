-- Without its files nobody comes.
use Rattle.child_edge.proofs.PlacesLemmas.{takes_nobody}
use Rattle.child_edge.proofs.connections.Connections.hold.Goals as goal

pub returns-in-Err : goal.returns-in-Err
returns-in-Err g c = λ none. takes_nobody c.args.self.now.held
