-- The goals of `laws::the_clock_does_not_fall` that the prover leaves open.
use Rattle.history_model.specs.Machine.{opened}
use Rattle.history_model.proofs.StepLemmas.{good-opened, good-run}
use Rattle.history_model.proofs.ClockRisesLemmas.{rising}
use Rattle.history_model.proofs.laws.the_clock_does_not_fall.Goals as goal

pub returns-clause-rising : goal.returns-clause-rising
returns-clause-rising c = rising

pub returns-clause-range : goal.returns-clause-range
returns-clause-range c = λ h es range. (good-run es (opened h) (good-opened h range)).range
