-- The answers to the goals of `renewal::is_fit`.
use Rattle.std.proofs.Common.{subst}
use Rattle.sqlite.specs.Held.{state}
use Rattle.sqlite_catalog.specs.Listing.{IsSound}
use Rattle.override_store.proofs.RenewalLemmas.{both_fit, none_fit}
use Rattle.override_store.proofs.renewal.is_fit.Goals as goal

pub returns-then-is_empty : goal.returns-then-is_empty
returns-then-is_empty g c says is up = none_fit (state g.S.Store c.args.conn.now).committed.trees (c.is_empty.ensures c.if-is_empty.true up)

pub returns-else-is_empty : goal.returns-else-is_empty
returns-else-is_empty g c says is up =
    let trees = (state g.S.Store c.args.conn.now).committed.trees in
    both_fit trees (subst (λ schema. IsSound schema trees) is (c.has_schema.ensures says up))
