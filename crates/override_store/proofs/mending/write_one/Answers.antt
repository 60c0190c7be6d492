-- The answers to the goals of `mending::write_one`.
use Rattle.std.proofs.Common.{arith, w64}
use Rattle.std.proofs.lemmas.Int.{to_z_pos}
use Rattle.sqlite.specs.Held.{state}
use Rattle.override_store.proofs.MendLemmas.{has_put}
use Rattle.override_store.proofs.mending.write_one.Goals as goal

pub returns-in-Ok-clause-put : goal.returns-in-Ok-clause-put
returns-in-Ok-clause-put g c clean inside =
    has_put (state g.S.Store c.args.tx.now.conn.now) (state g.S.Store c.execute.new.self.conn.now) inside c.in-Ok.field-0 c.args.label.now c.args.disabled c.args.changed
    (rw (c.params-to_sql.ensures, c.params-to_sql-2.ensures, c.params-to_sql-3.ensures, to_z_pos w64 c.args.changed (omega (arith, c.requires))) at (c.in-Ok.ensures.runs clean inside.mode))
