-- What the check of `opening::opened` does not find by itself.
use Rattle.replay.proofs.LauncherLemmas.{opened_from}
use Rattle.replay.proofs.opening.opened.Goals as goal

pub returns-in-Ok : goal.returns-in-Ok
returns-in-Ok c = λ line read. opened_from c.args.header c.in-Ok.table line read (rw c.in-Ok.is at c.table_of.ensures)
