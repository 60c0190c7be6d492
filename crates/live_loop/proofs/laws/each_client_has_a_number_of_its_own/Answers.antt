-- By the passes, one after another.
use Rattle.live_loop.proofs.CountingLemmas.{counts}
use Rattle.live_loop.proofs.laws.each_client_has_a_number_of_its_own.Goals as goal

pub returns : goal.returns
returns g c = λ first last rounds. counts rounds
