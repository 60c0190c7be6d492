-- Each number is above the one before.
use Rattle.live_loop.proofs.ChildrenLemmas.{all-on}
use Rattle.live_loop.proofs.laws.no_child_is_left_out.Goals as goal

pub returns : goal.returns
returns g c = λ first next old new polls. all-on g.met.H.LoopHost.rises first old next new polls
