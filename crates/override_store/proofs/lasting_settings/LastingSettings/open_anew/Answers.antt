-- The answers to the goals of `lasting_settings::LastingSettings::open_anew`.
use Rattle.std.proofs.Common.{None, subst}
use Rattle.sqlite.specs.Held.{state}
use Rattle.override_store.specs.KnownSettings.{HoldsKnown, HoldsTrees}
use Rattle.override_store.specs.Places.{Keeps, LeadsTo, over_connection, over_stores}
use Rattle.override_store.proofs.PlaceLemmas.{keeps_lead}
use Rattle.override_store.proofs.lasting_settings.LastingSettings.open_anew.Goals as goal

pub returns-in-Ok-clause-holds : goal.returns-in-Ok-clause-holds
returns-in-Ok-clause-holds g c is = subst (λ known. HoldsKnown (state g.S.Store c.in-Ok.store) known) c.as_slice.ensures.value (c.in-Ok.ensures.holds is)

pub returns-in-Ok-clause-crash : goal.returns-in-Ok-clause-crash
returns-in-Ok-clause-crash g c over is =
    let known = c.args.self.now.known.items in
    let led = subst (λ ks. LeadsTo (g.P.StorePlace.finds c.leave_one.new.place) (over_connection g.S.Store (g.P.StorePlace.finds c.renewed.new.place) c.in-Ok.store) (λ db. HoldsTrees db ks)) c.as_slice.ensures.value (c.in-Ok.ensures.crash over is) in
    let left = subst (λ o. Keeps (over_stores g.S.Store (g.P.StorePlace.finds c.args.self.now.place) None o) (g.P.StorePlace.finds c.leave_one.new.place)) c.take.ensures.value (c.leave_one.ensures.found over) in
    keeps_lead (λ db. HoldsTrees db known) _ _ _ left led

pub returns-in-Err-clause-left : goal.returns-in-Err-clause-left
returns-in-Err-clause-left g c over is =
    let known = c.args.self.now.known.items in
    let led = subst (λ ks. LeadsTo (g.P.StorePlace.finds c.leave_one.new.place) (g.P.StorePlace.finds c.renewed.new.place) (λ db. HoldsTrees db ks)) c.as_slice.ensures.value (c.in-Err.ensures.left over is) in
    let left = subst (λ o. Keeps (over_stores g.S.Store (g.P.StorePlace.finds c.args.self.now.place) None o) (g.P.StorePlace.finds c.leave_one.new.place)) c.take.ensures.value (c.leave_one.ensures.found over) in
    keeps_lead (λ db. HoldsTrees db known) _ _ _ left led
