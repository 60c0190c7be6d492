-- Step by step.
use Rattle.round_laws.proofs.FollowingLemmas.{followed}
use Rattle.round_laws.proofs.laws.each_client_is_followed.Goals as goal

pub returns : goal.returns
returns g c = λ first last new rounds. followed _ rounds new
