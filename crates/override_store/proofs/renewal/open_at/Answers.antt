-- The answers to the goals of `renewal::open_at`.
use Rattle.override_store.specs.Places.{Keeps, over_connection, over_left}
use Rattle.override_store.proofs.PlaceLemmas.{closed_keeps, keeps_leads, keeps_then, leads_keeps, opened_leads}
use Rattle.override_store.proofs.renewal.open_at.Goals as goal

pub returns-in-Ok-open_all-clause-holds : goal.returns-in-Ok-open_all-clause-holds
returns-in-Ok-open_all-clause-holds g c is = c.in-Ok-open_all.ensures.holds (λ clean up. c.is_fit.ensures c.if-not-is_fit.false is up)

pub returns-in-Ok-open_all-clause-crash : goal.returns-in-Ok-open_all-clause-crash
returns-in-Ok-open_all-clause-crash g c over is =
    opened_leads g.S.Store (λ _. ⊥) (g.P.StorePlace.finds c.args.place.now) (g.P.StorePlace.finds c.open.new.self) c.in-Ok.conn c.in-Ok-open_all.both.0.store
    (keeps_then _ _ _ c.in-Ok.ensures.found (over.there c.open.new.self c.in-Ok.conn)) (λ honest. over.up c.in-Ok.conn (c.in-Ok.ensures.is_open (over.there c.open.new.self c.in-Ok.conn honest).0))
    (c.is_fit.ensures c.if-not-is_fit.false is) (g.met.S.Store.stays c.in-Ok.conn.store) c.in-Ok-open_all.ensures.clean c.in-Ok-open_all.ensures.crash

pub returns-in-Err-open_all-clause-left : goal.returns-in-Err-open_all-clause-left
returns-in-Err-open_all-clause-left g c over is =
    leads_keeps (λ _. ⊥) _ _ _
    (opened_leads g.S.Store (λ _. ⊥) (g.P.StorePlace.finds c.args.place.now) (g.P.StorePlace.finds c.open.new.self) c.in-Ok.conn c.in-Err-open_all.store
    (keeps_then _ _ _ c.in-Ok.ensures.found (over.there c.open.new.self c.in-Ok.conn)) (λ honest. over.up c.in-Ok.conn (c.in-Ok.ensures.is_open (over.there c.open.new.self c.in-Ok.conn honest).0))
    (c.is_fit.ensures c.if-not-is_fit.false is) (g.met.S.Store.stays c.in-Ok.conn.store) c.in-Err-open_all.ensures.doubted c.in-Err-open_all.ensures.left)
    (keeps_then _ _ _ (over.left c.open.new.self c.in-Err-open_all.store) c.leave-in-Err-open_all.ensures.found)

pub returns-then-not-is_fit-clause-left : goal.returns-then-not-is_fit-clause-left
returns-then-not-is_fit-clause-left g c over is =
    let quiet = c.into_store.ensures.quiet in
    let before = g.P.StorePlace.finds c.args.place.now in
    let place = g.P.StorePlace.finds c.open.new.self in
    let conn = over_connection g.S.Store place c.in-Ok.conn in
    let left = over_left g.S.Store place c.into_store.result in
    let after = g.P.StorePlace.finds c.leave.new.self in
    let closed : Keeps conn left = closed_keeps g.S.Store place c.in-Ok.conn c.into_store.result quiet.clean quiet.outcomes in
    keeps_leads (λ _. ⊥) before after (keeps_then before conn after (keeps_then _ _ _ c.in-Ok.ensures.found (over.there c.open.new.self c.in-Ok.conn)) (keeps_then conn left after closed (keeps_then _ _ _ (over.left c.open.new.self c.into_store.result) c.leave.ensures.found)))

pub returns-in-Err-clause-left : goal.returns-in-Err-clause-left
returns-in-Err-clause-left g c over is = keeps_leads (λ _. ⊥) _ _ c.in-Err.ensures.refused
