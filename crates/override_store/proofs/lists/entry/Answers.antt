-- The answers to the goals of `lists::entry`.
use Rattle.override_store.proofs.lists.entry.Goals as goal

pub returns-in-Ok-get-clause-ok : goal.returns-in-Ok-get-clause-ok
returns-in-Ok-get-clause-ok c = (rw c.new.ensures c.in-Ok.ensures.ok, c.in-Ok-get.ensures.ok.1)
