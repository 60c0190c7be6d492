-- The answers to the goals of `renewal::leave`.
use Rattle.std.proofs.Common.{subst}
use Rattle.override_store.specs.Places.{Keeps, over_connection, over_left}
use Rattle.override_store.proofs.PlaceLemmas.{closed_keeps, keeps_then}
use Rattle.override_store.proofs.renewal.leave.Goals as goal

pub returns-clause-found : goal.returns-clause-found
returns-clause-found g c over =
    let place = g.P.StorePlace.finds c.args.place.now in
    let quiet = c.into_store.ensures.quiet in
    let closed = subst (λ h. Keeps (over_connection g.S.Store place h) (over_left g.S.Store place c.into_store.result)) c.close_on.ensures (closed_keeps g.S.Store place c.close_on.result c.into_store.result quiet.clean quiet.outcomes) in
    keeps_then _ _ _ closed (keeps_then _ _ _ (over.left c.args.place.now c.into_store.result) c.leave.ensures.found)
