-- The answers to the goals of `laws::a_store_over_its_files_holds_the_same`.
use Rattle.std.proofs.Common.{arith}
use Rattle.sqlite.specs.Files.{file_state}
use Rattle.sqlite.specs.State.{HasCleanDisk}
use Rattle.sqlite.proofs.Callers.{finds_again}
use Rattle.override_store.proofs.AgainLemmas.{carried, held_again}
use Rattle.override_store.proofs.laws.a_store_over_its_files_holds_the_same.Goals as goal

pub returns-clause-holds : goal.returns-clause-holds
returns-clause-holds g c copied found it settings holds late =
    let early : HasCleanDisk (file_state c.args.conn.now) = omega (arith, late, it.clean) in
    let there = found early in
    let same = finds_again c.args.store.now c.args.conn.now c.args.files.now copied there in
    let was = copied there.honest in
    let now = holds was.was_clean was.was_open in
    held_again (file_state c.args.conn.now) (file_state c.args.store.now) (file_state c.args.again.now) same it now.0 settings now.1 late

pub returns-clause-same : goal.returns-clause-same
returns-clause-same g c copied found it late ours =
    let early : HasCleanDisk (file_state c.args.conn.now) = omega (arith, late, it.clean) in
    let same = finds_again c.args.store.now c.args.conn.now c.args.files.now copied (found early) in
    carried _ (file_state c.args.store.now) (file_state c.args.again.now) same ours (it.opened late) (it.rows late)
