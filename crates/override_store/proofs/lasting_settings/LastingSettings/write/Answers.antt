-- The answers to the goals of `lasting_settings::LastingSettings::write`.
use Rattle.std.proofs.Common.{arith, sym, subst, ◌∙◌}
use Rattle.sqlite.specs.Held.{state}
use Rattle.sqlite.specs.State.{HasCleanDisk}
use Rattle.override_store.specs.KnownSettings.{settings_of, stamps_of}
use Rattle.override_store.specs.Places.{IsKnownOr, LeadsTo, over_connection, over_stores}
use Rattle.override_store.proofs.PlaceLemmas.{leads_shut, one_then, set_leads}
use Rattle.override_store.proofs.TieLemmas.{stamps_more}
use Rattle.override_store.proofs.lasting_settings.LastingSettings.write.Goals as goal

pub returns-in-Ok-set-clause-made : goal.returns-in-Ok-set-clause-made
returns-in-Ok-set-clause-made g c true is held clean =
    let old = state g.S.Store c.in-Ok.store in
    let new = state g.S.Store c.set.new.self in
    let known = c.args.self.now.known.items in
    let had = c.in-Ok.ensures.holds is held in
    let early : HasCleanDisk old = omega (arith, clean, c.set.ensures.crash.clean) in
    let up = c.in-Ok-set.ensures.ran clean in
    let ours = (had.0 early up).0 in
    let made = c.in-Ok-set.ensures.ok clean ours in
    record {
      ours = made.0;
      settings = c.in-Ok-set.ensures.newest clean ours (settings_of known) (had.0 early up).1;
      stamps = stamps_more _ _ (stamps_of known) c.args.label.now c.args.changed (had.1 early up).1 made.2;
      lasts = c.in-Ok-set.ensures.lasts clean ours;
    }

pub returns-in-Ok-set-clause-crash : goal.returns-in-Ok-set-clause-crash
returns-in-Ok-set-clause-crash g c over is held =
    let old = c.args.self.now in
    let known = old.known.items in
    let before = over_stores g.S.Store (g.P.StorePlace.finds old.place) old.store old.shut in
    let place = g.P.StorePlace.finds c.at_hand.new.self.place in
    let led = one_then known c.args.label.now c.args.disabled c.args.changed before (over_connection g.S.Store place c.in-Ok.store) (over_connection g.S.Store place c.set.new.self) (c.in-Ok.ensures.crash over is)
    (set_leads g.S.Store known c.args.label.now c.args.disabled c.args.changed place c.in-Ok.store c.set.new.self (c.in-Ok.ensures.holds is held) c.set.ensures.crash) in
    led

pub returns-in-Err-set-clause-crash : goal.returns-in-Err-set-clause-crash
returns-in-Err-set-clause-crash g c over is held =
    let old = c.args.self.now in
    let known = old.known.items in
    let before = over_stores g.S.Store (g.P.StorePlace.finds old.place) old.store old.shut in
    let place = g.P.StorePlace.finds c.at_hand.new.self.place in
    let led = one_then known c.args.label.now c.args.disabled c.args.changed before (over_connection g.S.Store place c.in-Ok.store) (over_connection g.S.Store place c.set.new.self) (c.in-Ok.ensures.crash over is)
    (set_leads g.S.Store known c.args.label.now c.args.disabled c.args.changed place c.in-Ok.store c.set.new.self (c.in-Ok.ensures.holds is held) c.set.ensures.crash) in
    let new = c.shut.new.self in
    let shut = leads_shut g.S.Store (λ db. IsKnownOr db known c.args.label.now c.args.disabled c.args.changed) before place c.set.new.self new.store new.shut (c.shut.ensures.store ∙ c.in-Ok.ensures.taken) c.shut.ensures.held led in
    subst (λ p. LeadsTo before (over_stores g.S.Store (g.P.StorePlace.finds p) new.store new.shut) (λ db. IsKnownOr db known c.args.label.now c.args.disabled c.args.changed)) (sym c.shut.ensures.place) shut
