-- What is reported of a job: the facts of its past.
use Rattle.std.specs.Option.{option_map}
use Rattle.std.specs.Prelude.{◌≡◌, Option, Some, None}
use Rattle.history_model.specs.Items.{History}
use Rattle.history_model.specs.Reasons.{reasons_of, spawns_from, path_that_holds}
use Rattle.history_model.specs.Demands.{latest_demand}
use Rattle.job_core.specs.JobMoments.{AreMoments}
use Rattle.status_file.specs.declared.facts.JobFacts.{JobFacts}

-- The facts of the job with this past: its reasons, when its next orders are due, and from when on
-- a clock reading starts it. Then come what made its start request, and which path holds it wanted.
pub record AreFacts (past : History) (facts : JobFacts) : Type 0 where
  pub reasons : facts.reasons ≡ reasons_of past
  pub moments : AreMoments past facts.moments
  pub spawns : facts.spawns_from ≡ spawns_from past
  pub demand : facts.demand ≡ latest_demand past
  pub path : option_map (λ path. path.now) facts.path ≡ path_that_holds past

-- so of a job that is loaded; of another there are none
abbrev pub HasFacts : Option History → Option JobFacts → Type 0
HasFacts None None = Unit {0}
HasFacts (Some past) (Some facts) = AreFacts past facts
HasFacts None (Some facts) = ⊥
HasFacts (Some past) None = ⊥
