-- One that is spent goes.
use Rattle.child_edge.proofs.PlacesLemmas.{spent_goes}
use Rattle.child_edge.proofs.connections.take_spent.Goals as goal

pub returns-then-is_spent_at : goal.returns-then-is_spent_at
returns-then-is_spent_at c = spent_goes c.args.held.now c.remove.new.self c.args.key (c.is_spent_at.ensures c.if-is_spent_at.true) c.remove.ensures.updates.0
