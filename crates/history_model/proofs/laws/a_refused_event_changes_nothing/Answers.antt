-- The goals of `laws::a_refused_event_changes_nothing` that the prover leaves open.
use Rattle.history_model.specs.Step.{step_by, outcome_by}
use Rattle.history_model.proofs.laws.a_refused_event_changes_nothing.Goals as goal

pub returns : goal.returns
returns c = λ s e refusal refused. ((λ i. step_by (refused i) s e), (λ i. (outcome_by (refused i) s e).orders))
