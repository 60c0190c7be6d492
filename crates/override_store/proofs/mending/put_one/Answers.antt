-- The answers to the goals of `mending::put_one`.
use Rattle.override_store.proofs.mending.put_one.Goals as goal

pub returns-clause-put : goal.returns-clause-put
returns-clause-put g c = rw c.label-2.ensures at c.write_one.ensures.put
