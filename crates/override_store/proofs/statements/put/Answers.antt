-- The answers to the goals of `statements::put`.
use Rattle.std.proofs.Common.{arith}
use Rattle.sqlite.specs.Held.{state}
use Rattle.sqlite.specs.State.{HasCleanDisk}
use Rattle.override_store.specs.OverrideStores.{HoldsSetting}
use Rattle.override_store.proofs.ReadyLemmas.{commits_then, commits_none_then, holds_then, ours_then, sets_then}
use Rattle.override_store.proofs.statements.put.Goals as goal

pub returns-in-Ok-clause-ok : goal.returns-in-Ok-clause-ok
returns-in-Ok-clause-ok g c clean ours =
    let old = state g.S.Store c.args.conn.now in
    let mid = state g.S.Store c.ready.new.conn in
    let new = state g.S.Store c.write_row.new.conn in
    let early : HasCleanDisk mid = omega (arith, clean, c.write_row.ensures.crash.clean) in
    let same = c.in-Ok.ensures.open early in
    sets_then old mid new same c.write_row.result c.args.label.now c.args.disabled c.args.changed (c.write_row.ensures.ok clean (ours_then old mid same ours))

pub returns-in-Ok-clause-crash : goal.returns-in-Ok-clause-crash
returns-in-Ok-clause-crash g c =
    let old = state g.S.Store c.args.conn.now in
    let mid = state g.S.Store c.ready.new.conn in
    let new = state g.S.Store c.write_row.new.conn in
    commits_then old mid new (λ db. HoldsSetting mid db c.args.label.now c.args.disabled c.args.changed) (λ db. HoldsSetting old db c.args.label.now c.args.disabled c.args.changed) c.in-Ok.ensures.open
    (λ same db early. holds_then old mid new same db c.args.label.now c.args.disabled c.args.changed early) c.in-Ok.ensures.crash c.write_row.ensures.crash

pub returns-in-Err-clause-crash : goal.returns-in-Err-clause-crash
returns-in-Err-clause-crash g c =
    let old = state g.S.Store c.args.conn.now in
    commits_none_then old (state g.S.Store c.ready.new.conn) (λ db. HoldsSetting old db c.args.label.now c.args.disabled c.args.changed) c.in-Err.ensures.crash
