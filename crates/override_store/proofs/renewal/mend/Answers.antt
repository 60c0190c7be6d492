-- The answers to the goals of `renewal::mend`.
use Rattle.override_store.specs.KnownSettings.{HoldsTrees}
use Rattle.override_store.proofs.PlaceLemmas.{leads_keeps, mend_leads}
use Rattle.override_store.proofs.renewal.mend.Goals as goal

pub returns-clause-crash : goal.returns-clause-crash
returns-clause-crash g c over ours =
    leads_keeps (λ db. HoldsTrees db c.args.known.now) _ _ _ (mend_leads g.S.Store c.args.known.now (g.P.StorePlace.finds c.args.place.now) c.args.store c.mend-mended.new.self ours c.mend-mended.ensures.crash) (c.leave.ensures.found over)
