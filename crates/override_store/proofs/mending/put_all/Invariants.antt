-- What is known is made from its end on.
use Rattle.std.proofs.Common.{◌≡◌, ◌-◌, [], length, drop}
use Rattle.sqlite.specs.Held.{state}
use Rattle.sqlite.specs.State.{HasCleanDisk, Survives}
use Rattle.override_store.specs.OverrideStores.{rows_now}
use Rattle.override_store.specs.KnownSettings.{HasKnown}
use Rattle.override_store.specs.Mending.{IsInside}
use Rattle.override_store.proofs.mending.put_all.Given as goal

abbrev pub invariant-loop-turn : goal.invariant-loop-turn
invariant-loop-turn g l =
    let old = state g.S.Store l.fn.tx.conn.now in
    let new = state g.S.Store l.tx.conn.now in record {
      same : l.tx.conn.ghost_name ≡ l.fn.tx.conn.ghost_name;
      survives : Survives old new (λ _. ⊥);
      put : HasCleanDisk new → IsInside old → IsInside new × (rows_now old ≡ [] → HasKnown (rows_now new) (drop (length l.known - l.turn) l.known));
    }
