-- What a table says of a job are the facts of each machine that it keeps.
use Rattle.std.proofs.Common.{◌≡◌, ℕ, Option, Some, None, IfSome, refl, subst}
use Rattle.std.specs.Option.{option_map}
use Rattle.history_model.specs.Items.{History}
use Rattle.history_model.specs.Reasons.{reasons_of}
use Rattle.history_model.specs.declared.reasons.Reasons.{Reasons}
use Rattle.loaded_jobs.specs.Waking.{spawning, demanding, holding, HasMoments}
use Rattle.status_file.specs.declared.facts.JobFacts.{JobFacts}
use Rattle.status_file.specs.Facts.{AreFacts, HasFacts}

value_in : (r : Reasons) (o : Option Reasons) → Some r ≡ o → IfSome o (λ x. r ≡ x)
value_in r o is = subst (λ o. IfSome o (λ x. r ≡ x)) is refl

pub told : (at : Option History) (facts : JobFacts) → Some facts.reasons ≡ option_map reasons_of at → HasMoments at (Some facts.moments) → facts.spawns_from ≡ spawning at → facts.demand ≡ demanding at
    → option_map (λ path. path.now) facts.path ≡ holding at → HasFacts at (Some facts)
told None facts reasons moments spawns demand path = absurd moments
told (Some past) facts reasons moments spawns demand path = record { reasons = value_in facts.reasons (Some (reasons_of past)) reasons; moments = moments; spawns = spawns; demand = demand; path = path }

-- nothing is said of a job that is not loaded
pub untold : (at : Option History) → None ≡ option_map reasons_of at → HasFacts at None
untold None none = tt
untold (Some past) none = absurd (cc)

pub unmoved : (at : Option History) → HasMoments at None → HasFacts at None
unmoved None none = tt
unmoved (Some past) none = absurd none
