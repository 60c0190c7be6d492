-- The answers to the goals of `lasting_settings::LastingSettings::at_hand`.
use Rattle.std.proofs.Common.{IfOk, sym, subst, ◌∙◌}
use Rattle.override_store.specs.KnownSettings.{HoldsTrees}
use Rattle.override_store.specs.Places.{LeadsTo, over_connection, over_stores}
use Rattle.override_store.proofs.lasting_settings.LastingSettings.at_hand.Goals as goal

pub returns-in-None-clause-crash : goal.returns-in-None-clause-crash
returns-in-None-clause-crash g c over is =
    let old = c.args.self.now in
    subst (λ o. IfOk c.open_anew.result (λ store. LeadsTo (over_stores g.S.Store (g.P.StorePlace.finds old.place) o old.shut) (over_connection g.S.Store (g.P.StorePlace.finds c.open_anew.new.self.place) store) (λ db. HoldsTrees db old.known.items)))
    (sym c.in-None.is ∙ c.take.ensures.value) (c.open_anew.ensures.crash over is)
