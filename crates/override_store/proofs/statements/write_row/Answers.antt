-- The answers to the goals of `statements::write_row`.
use Rattle.std.proofs.Common.{ap, ◌∙◌, arith, w64}
use Rattle.std.proofs.lemmas.Int.{to_z_pos}
use Rattle.sqlite.specs.Held.{state}
use Rattle.sqlite.specs.Effect.{Database}
use Rattle.sqlite.proofs.StateLemmas.{survives_weaker}
use Rattle.override_store.proofs.CallLemmas.{has_set, may_set, keeps, refused, leaves_none, opens_none}
use Rattle.override_store.proofs.statements.write_row.Goals as goal

pub returns-in-Ok-clause-ok : goal.returns-in-Ok-clause-ok
returns-in-Ok-clause-ok g c clean ours =
    has_set (state g.S.Store c.args.conn.now) (state g.S.Store c.execute.new.self) c.args.label.now c.args.disabled c.args.changed ours c.in-Ok.field-0
    (rw (c.params-to_sql.ensures, c.params-to_sql-2.ensures, c.params-to_sql-3.ensures, to_z_pos w64 c.args.changed (omega (arith, c.requires))) at (c.in-Ok.ensures.runs clean))

pub returns-in-Ok-clause-mode : goal.returns-in-Ok-clause-mode
returns-in-Ok-clause-mode g c clean ours =
    (has_set (state g.S.Store c.args.conn.now) (state g.S.Store c.execute.new.self) c.args.label.now c.args.disabled c.args.changed ours c.in-Ok.field-0
    (rw (c.params-to_sql.ensures, c.params-to_sql-2.ensures, c.params-to_sql-3.ensures, to_z_pos w64 c.args.changed (omega (arith, c.requires))) at (c.in-Ok.ensures.runs clean))).0.autocommit

pub returns-in-Ok-clause-crash : goal.returns-in-Ok-clause-crash
returns-in-Ok-clause-crash g c =
    let old = state g.S.Store c.args.conn.now in
    let kept = rw (c.params-to_sql.ensures, c.params-to_sql-2.ensures, c.params-to_sql-3.ensures, to_z_pos w64 c.args.changed (omega (arith, c.requires))) at c.execute.ensures.survives in
    survives_weaker old (state g.S.Store c.execute.new.self) _ _ (λ _ db may ours. may_set old old c.args.label.now c.args.disabled c.args.changed ours db may) kept

pub returns-in-Err-clause-crash : goal.returns-in-Err-clause-crash
returns-in-Err-clause-crash g c =
    let old = state g.S.Store c.args.conn.now in
    let kept = rw (c.params-to_sql.ensures, c.params-to_sql-2.ensures, c.params-to_sql-3.ensures, to_z_pos w64 c.args.changed (omega (arith, c.requires))) at c.execute.ensures.survives in
    survives_weaker old (state g.S.Store c.execute.new.self) _ _ (λ _ db may ours. may_set old old c.args.label.now c.args.disabled c.args.changed ours db may) kept

pub returns-in-Err-clause-err : goal.returns-in-Err-clause-err
returns-in-Err-clause-err g c clean ours up =
    keeps _ _ (state g.S.Store c.args.conn.now) (state g.S.Store c.execute.new.self) c.in-Err.error ours up (c.in-Err.ensures.runs clean)

pub returns-in-Err-clause-mode : goal.returns-in-Err-clause-mode
returns-in-Err-clause-mode g c clean ours =
    leaves_none (state g.S.Store c.args.conn.now) (state g.S.Store c.execute.new.self) ours (refused _ _ (state g.S.Store c.args.conn.now) (state g.S.Store c.execute.new.self) c.in-Err.error (c.in-Err.ensures.runs clean))

pub returns-in-Ok-clause-lasts : goal.returns-in-Ok-clause-lasts
returns-in-Ok-clause-lasts g c clean ours db left =
    let now = (has_set (state g.S.Store c.args.conn.now) (state g.S.Store c.execute.new.self) c.args.label.now c.args.disabled c.args.changed ours c.in-Ok.field-0
    (rw (c.params-to_sql.ensures, c.params-to_sql-2.ensures, c.params-to_sql-3.ensures, to_z_pos w64 c.args.changed (omega (arith, c.requires))) at (c.in-Ok.ensures.runs clean))).0 in
    g.met.S.Store.settled c.execute.new.self.store db now.is_open left ∙ ap (λ (d : Database). d.trees) now.settled

pub returns-in-Ok-clause-was_open : goal.returns-in-Ok-clause-was_open
returns-in-Ok-clause-was_open g c clean up =
    opens_none _ _ (state g.S.Store c.args.conn.now) (state g.S.Store c.execute.new.self) _ (c.in-Ok.ensures.runs clean) up

pub returns-in-Err-clause-was_open : goal.returns-in-Err-clause-was_open
returns-in-Err-clause-was_open g c clean up =
    opens_none _ _ (state g.S.Store c.args.conn.now) (state g.S.Store c.execute.new.self) _ (c.in-Err.ensures.runs clean) up
