-- It is held.
use Rattle.std.proofs.Common.{subst}
use Rattle.std.specs.Option.{IsSomeAnd}
use Rattle.child_edge.specs.Places.{IsSpent}
use Rattle.child_edge.proofs.connections.is_spent_at.Goals as goal

pub returns-in-Some : goal.returns-in-Some
returns-in-Some c = λ is. subst (λ slot. IsSomeAnd slot IsSpent) c.in-Some.ensures.value (c.is_spent.ensures is)
