-- The goals of `laws::minutes_are_crossed` that the prover leaves open.
use Rattle.history_model.proofs.CrossedMinutesLemmas.{members, rises}
use Rattle.history_model.proofs.laws.minutes_are_crossed.Goals as goal

pub returns-clause-members : goal.returns-clause-members
returns-clause-members c = members

pub returns-clause-rising : goal.returns-clause-rising
returns-clause-rising c = rises
