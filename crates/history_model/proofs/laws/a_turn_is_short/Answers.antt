-- The goals of `laws::a_turn_is_short` that the prover leaves open.
use Rattle.history_model.proofs.TurnBoundLemmas.{short}
use Rattle.history_model.proofs.laws.a_turn_is_short.Goals as goal

pub returns : goal.returns
returns c = short
