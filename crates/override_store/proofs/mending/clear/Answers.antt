-- The answers to the goals of `mending::clear`.
use Rattle.sqlite.specs.Held.{state}
use Rattle.override_store.proofs.MendLemmas.{has_emptied}
use Rattle.override_store.proofs.mending.clear.Goals as goal

pub returns-in-Ok-clause-cleared : goal.returns-in-Ok-clause-cleared
returns-in-Ok-clause-cleared g c clean inside =
    has_emptied (state g.S.Store c.args.tx.now.conn.now) (state g.S.Store c.execute.new.self.conn.now) inside c.in-Ok.field-0 (c.in-Ok.ensures.runs clean inside.mode)

pub returns-in-Ok-clause-ran : goal.returns-in-Ok-clause-ran
returns-in-Ok-clause-ran g c clean mode = (c.in-Ok.ensures.runs clean mode).1.was_open
