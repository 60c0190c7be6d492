-- The answers to the goals of `statements::read_rows`.
use Rattle.sqlite.specs.Held.{state}
use Rattle.sqlite.proofs.StateLemmas.{survives_weaker}
use Rattle.override_store.proofs.CallLemmas.{answers, still_open, left_shown, left_unshown, commits_none, shown_open, unshown_open}
use Rattle.override_store.proofs.statements.read_rows.Goals as goal

pub returns-in-Ok-clause-ok : goal.returns-in-Ok-clause-ok
returns-in-Ok-clause-ok g c clean ours =
    answers (state g.S.Store c.args.conn.now) (state g.S.Store c.query_all.new.self) ours c.in-Ok.rows.items (c.in-Ok.ensures.ok clean)

pub returns-in-Ok-clause-same : goal.returns-in-Ok-clause-same
returns-in-Ok-clause-same g c clean ours up =
    let old = state g.S.Store c.args.conn.now in
    let new = state g.S.Store c.query_all.new.self in
    still_open old new ours up (left_shown old new ours c.in-Ok.rows.items (c.in-Ok.ensures.ok clean))

pub returns-in-Err-clause-same : goal.returns-in-Err-clause-same
returns-in-Err-clause-same g c clean ours up =
    let old = state g.S.Store c.args.conn.now in
    let new = state g.S.Store c.query_all.new.self in
    still_open old new ours up (left_unshown old new ours c.in-Err.error (c.in-Err.ensures.err clean))

pub returns-in-Ok-clause-crash : goal.returns-in-Ok-clause-crash
returns-in-Ok-clause-crash g c =
    let old = state g.S.Store c.args.conn.now in
    let new = state g.S.Store c.query_all.new.self in
    survives_weaker old new _ _ (λ _ db may ours. commits_none old new ours db may) c.query_all.ensures.survives

pub returns-in-Err-clause-crash : goal.returns-in-Err-clause-crash
returns-in-Err-clause-crash g c =
    let old = state g.S.Store c.args.conn.now in
    let new = state g.S.Store c.query_all.new.self in
    survives_weaker old new _ _ (λ _ db may ours. commits_none old new ours db may) c.query_all.ensures.survives

pub returns-in-Ok-clause-was_open : goal.returns-in-Ok-clause-was_open
returns-in-Ok-clause-was_open g c clean up =
    shown_open _ _ (state g.S.Store c.args.conn.now) (state g.S.Store c.query_all.new.self) _ (c.in-Ok.ensures.ok clean)

pub returns-in-Err-clause-was_open : goal.returns-in-Err-clause-was_open
returns-in-Err-clause-was_open g c clean up =
    unshown_open _ _ (state g.S.Store c.args.conn.now) (state g.S.Store c.query_all.new.self) _ (c.in-Err.ensures.err clean) up

pub returns-in-Ok-clause-ran : goal.returns-in-Ok-clause-ran
returns-in-Ok-clause-ran g c clean = shown_open _ _ (state g.S.Store c.args.conn.now) (state g.S.Store c.query_all.new.self) _ (c.in-Ok.ensures.ok clean)
