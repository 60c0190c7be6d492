-- The answers to the goals of `open::open_tables`.
use Rattle.std.proofs.Common.{sym, subst}
use Rattle.sqlite.specs.Held.{state}
use Rattle.sqlite.specs.Tree.{Trees}
use Rattle.sqlite.proofs.StateLemmas.{survives_weaker}
use Rattle.override_store.specs.OverrideStores.{setting_rows}
use Rattle.override_store.specs.SettingRows.{Moves}
use Rattle.override_store.proofs.AnswerLemmas.{on_ok}
use Rattle.override_store.proofs.OpenLemmas.{opens}
use Rattle.override_store.proofs.open.open_tables.Goals as goal

pub returns-clause-ok : goal.returns-clause-ok
returns-clause-ok g c clean = on_ok c.run_batch.result _ _ (λ ran firsts seconds ready.
    let it = opens g.S.Store c.args.conn.now (state g.S.Store c.run_batch.new.conn).now firsts seconds ready.fits ran.0 in
    (record { is_open = ran.1; autocommit = ran.3; settled = ran.2; ours = it.0 }, it.1)) (c.run_batch.ensures.all clean)

pub returns-clause-crash : goal.returns-clause-crash
returns-clause-crash g c =
    survives_weaker (state g.S.Store c.args.conn.now) (state g.S.Store c.run_batch.new.conn) _ _ (λ _ trees may firsts seconds ready.
    let it = opens g.S.Store c.args.conn.now may.0 firsts seconds ready.fits may.1 in
    (may.0, may.2, it.0, subst (λ (t : Trees). Moves firsts seconds (setting_rows t)) (sym may.2) it.1)) c.run_batch.ensures.crash
