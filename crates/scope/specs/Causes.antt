-- What `why` shows of a job: a cause for each thing that the table's reasons say, and none besides.
use Rattle.std.specs.Prelude.{◌≡◌, ◌⊎◌, ◌≤◌, ◌<◌, ◌+◌, ℕ, true, false, List, [], ◌∷◌, Some}
use Rattle.history_model.specs.declared.reasons.Reasons.{Reasons}
use Rattle.history_model.specs.Reasons.{some_want}
use Rattle.scope.specs.declared.journal.telling.JobCause.{JobCause}
use Rattle.scope.specs.declared.journal.telling.JobCause.TheVariants.{Removing, Child, Awaited, LaunchSpent, RunsSpent, Throttled, NotWanted, Demand, Connections, KeepAlive, SuccessfulExit, Crashed, PathState, QueueDirectories}

-- the reasons say this cause
abbrev pub Says : Reasons → JobCause → Type 0
Says r Removing = r.is_removing ≡ true
Says r (Child child) = r.child ≡ Some child
Says r (Awaited act) = r.awaited ≡ Some act
Says r LaunchSpent = r.is_launch_spent ≡ true
Says r RunsSpent = r.are_runs_spent ≡ true
Says r (Throttled up) = r.throttled_until ≡ Some up
Says r Demand = r.wants.demand ≡ true
Says r (Connections count) = (r.wants.connections ≡ count) × (0 < count)
Says r KeepAlive = r.wants.keep_alive ≡ true
Says r SuccessfulExit = r.wants.successful_exit ≡ true
Says r Crashed = r.wants.crashed ≡ true
Says r PathState = r.wants.path_state ≡ true
Says r QueueDirectories = r.wants.queue_directories ≡ true
Says r NotWanted = some_want r.wants ≡ false

-- where a cause is shown: what keeps the job from a start, then what wants it, or that nothing does
abbrev pub place : JobCause → ℕ
place Removing = 0
place (Child child) = 1
place (Awaited act) = 2
place LaunchSpent = 3
place RunsSpent = 4
place (Throttled up) = 5
place Demand = 6
place (Connections count) = 7
place KeepAlive = 8
place SuccessfulExit = 9
place Crashed = 10
place PathState = 11
place QueueDirectories = 12
place NotWanted = 13

-- the cause is one of these
abbrev pub IsAmong : JobCause → List JobCause → Type 0
IsAmong cause [] = ⊥
IsAmong cause (first ∷ others) = (first ≡ cause) ⊎ IsAmong cause others

-- the reasons say each of these
abbrev pub SaysEach : Reasons → List JobCause → Type 0
SaysEach r [] = Unit {0}
SaysEach r (first ∷ others) = Says r first × SaysEach r others

-- the places rise, from this one on
abbrev pub RisesFrom : ℕ → List JobCause → Type 0
RisesFrom least [] = Unit {0}
RisesFrom least (first ∷ others) = (least ≤ place first) × RisesFrom (place first + 1) others

-- each cause that the reasons say is among these, and no other; and each is there once, in the
-- order of the places
pub record AreCauses (r : Reasons) (causes : List JobCause) : Type 0 where
  pub all : (cause : JobCause) → Says r cause → IsAmong cause causes
  pub only : SaysEach r causes
  pub order : RisesFrom 0 causes
