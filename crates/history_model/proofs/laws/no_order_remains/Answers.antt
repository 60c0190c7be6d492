-- The goals of `laws::no_order_remains` that the prover leaves open.
use Rattle.std.proofs.Common.{◌≡◌, None, false}
use Rattle.history_model.specs.Runs.{is_gone}
use Rattle.history_model.specs.Due.{due}
use Rattle.history_model.specs.Machine.{Job, opened}
use Rattle.history_model.specs.Step.{run}
use Rattle.history_model.proofs.StepLemmas.{Rests, all-implied, resting}
use Rattle.history_model.proofs.LiftedLemmas.{lifted, held-back, stays-fired, waits}
use Rattle.history_model.specs.MachineLaws.{carried, IsFalling}
use Rattle.history_model.proofs.CarriedLemmas.{in_turn}
use Rattle.history_model.proofs.ConnectionNumbersLemmas.{numbers}
use Rattle.std.specs.List.{filter_map}
use Rattle.history_model.specs.Demands.{came_in}
use Rattle.history_model.proofs.laws.no_order_remains.Goals as goal

pub returns-clause-idle : goal.returns-clause-idle
returns-clause-idle c = λ h es range.
    all-implied (Rests (run es (opened h)).reading) (λ (job : Job). due job.past ≡ None) (λ job rests. rests.idle) (run es (opened h)).jobs (resting h es range)

pub returns-clause-staying : goal.returns-clause-staying
returns-clause-staying c = λ h es range.
    all-implied (Rests (run es (opened h)).reading) (λ (job : Job). is_gone job.past ≡ false) (λ job rests. rests.staying) (run es (opened h)).jobs (resting h es range)

pub returns-clause-wanted : goal.returns-clause-wanted
returns-clause-wanted c = held-back

pub returns-clause-fired : goal.returns-clause-fired
returns-clause-fired c = stays-fired

pub returns-clause-connections : goal.returns-clause-connections
returns-clause-connections c = waits

pub returns-clause-in_turn : goal.returns-clause-in_turn
returns-clause-in_turn c = λ h es range.
    lifted (λ t. IsFalling (carried t)) (λ t lawful. (in_turn t lawful).falls) (run es (opened h)).reading (run es (opened h)).jobs (resting h es range)

pub returns-clause-numbered : goal.returns-clause-numbered
returns-clause-numbered c = λ h es range.
    lifted (λ t. IsFalling (filter_map came_in t)) numbers (run es (opened h)).reading (run es (opened h)).jobs (resting h es range)

pub returns-clause-lawful : goal.returns-clause-lawful
returns-clause-lawful c = numbers
