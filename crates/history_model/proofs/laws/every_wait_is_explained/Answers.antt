-- The goals of `laws::every_wait_is_explained` that the prover leaves open.
use Rattle.std.proofs.Common.{◌≡◌, true}
use Rattle.history_model.specs.Machine.{Job, opened}
use Rattle.history_model.specs.Step.{run}
use Rattle.history_model.specs.Reasons.{reasons_of, some_reason}
use Rattle.history_model.proofs.StepLemmas.{Rests, all-implied, resting}
use Rattle.history_model.proofs.ReasonsLemmas.{spawn-due, spawn-is, stop-due, idle-reason, wanted, demand-told, path-told}
use Rattle.history_model.proofs.laws.every_wait_is_explained.Goals as goal

pub returns-clause-due : goal.returns-clause-due
returns-clause-due c = spawn-due

pub returns-clause-spawn : goal.returns-clause-spawn
returns-clause-spawn c = spawn-is

pub returns-clause-otherwise : goal.returns-clause-otherwise
returns-clause-otherwise c = stop-due

pub returns-clause-explained : goal.returns-clause-explained
returns-clause-explained c = λ h es range.
    all-implied (Rests (run es (opened h)).reading) (λ (job : Job). some_reason (reasons_of job.past) ≡ true) (λ job rests. idle-reason job.past rests.idle) (run es (opened h)).jobs (resting h es range)

pub returns-clause-wants : goal.returns-clause-wants
returns-clause-wants c = wanted

pub returns-clause-demand : goal.returns-clause-demand
returns-clause-demand c = demand-told

pub returns-clause-path : goal.returns-clause-path
returns-clause-path c = path-told
