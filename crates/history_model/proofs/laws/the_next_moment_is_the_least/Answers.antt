-- The goals of `laws::the_next_moment_is_the_least` that the prover leaves open.
use Rattle.history_model.proofs.MomentsLemmas.{is-one, is-least, is-none}
use Rattle.history_model.proofs.laws.the_next_moment_is_the_least.Goals as goal

pub returns-clause-one : goal.returns-clause-one
returns-clause-one c = λ t m positive. is-one t positive m

pub returns-clause-least : goal.returns-clause-least
returns-clause-least c = λ t m other positive. is-least t positive m other

pub returns-clause-none : goal.returns-clause-none
returns-clause-none c = λ t other positive. is-none t positive other
