-- Worked examples at the limit of 1,024 loaded jobs (this project's own). Each is a theorem that computes.
use Rattle.std.specs.Prelude.{◌≡◌, ℕ, zero, suc, ◌+◌, ◌/◌, ◌%◌, List, [], ◌∷◌, Some, None, refl}
use Rattle.history_model.specs.declared.Refusal.TheVariants.{AlreadyLoaded, TooManyJobs}
use Rattle.history_model.specs.Items.{Loaded}
use Rattle.history_model.specs.Clock.{no_definition}
use Rattle.history_model.specs.Labels.{Label}
use Rattle.history_model.specs.Machine.{State, Job}
use Rattle.history_model.specs.Acceptance.{refusal_in}
use Rattle.history_model.specs.Step.{step}
use Rattle.history_model.proofs.ExampleWords.{read_at, start, load}

-- a label of two letters, another one for each number below 1,024, in byte order
abbrev pub numbered : ℕ → Label
numbered k = (64 + k / 32) ∷ (64 + k % 32) ∷ []

-- this number of jobs, numbered from this one on
abbrev pub crowd : ℕ → ℕ → List Job
crowd k zero = []
crowd k (suc n) = record { label = numbered k; past = Loaded no_definition (read_at 0) ∷ [] } ∷ crowd (k + 1) n

-- the machine with this number of jobs
abbrev pub crowded : ℕ → State
crowded n = record start { jobs = crowd 0 n }

-- the load of the last job is accepted, and fills the machine
pub last_accepted : refusal_in (crowded 1023) (load (numbered 1023) no_definition) ≡ None
last_accepted = refl

-- with it the machine is full
pub filled : step (crowded 1023) (load (numbered 1023) no_definition) ≡ crowded 1024
filled = refl

-- one more is refused
pub one_too_many : refusal_in (crowded 1024) (load (64 ∷ []) no_definition) ≡ Some TooManyJobs
one_too_many = refl

-- that a label is loaded is said first
pub first_again : refusal_in (crowded 1024) (load (numbered 0) no_definition) ≡ Some AlreadyLoaded
first_again = refl
