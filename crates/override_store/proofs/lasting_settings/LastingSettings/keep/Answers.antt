-- The answers to the goals of `lasting_settings::LastingSettings::keep`.
use Rattle.std.proofs.Common.{◌∙◌}
use Rattle.override_store.specs.Places.{over_stores}
use Rattle.override_store.proofs.PlaceLemmas.{leads_from}
use Rattle.override_store.proofs.lasting_settings.LastingSettings.keep.Goals as goal

pub returns-then-write-clause-crash : goal.returns-then-write-clause-crash
returns-then-write-clause-crash g c over is held =
    let old = c.args.self.now in
    let room = c.make_room.new.self in
    let new = c.write.new.self in
    let it = c.make_room.ensures in
    leads_from g.S.Store g.P.StorePlace.finds c.args.label.now c.args.disabled c.args.changed (over_stores g.S.Store (g.P.StorePlace.finds new.place) new.store new.shut) room.place old.place room.store old.store room.shut old.shut
    room.known.items old.known.items it.place it.store it.shut it.known (c.write.ensures.crash over (it.pattern ∙ is)) held

pub returns-else-write-clause-crash : goal.returns-else-write-clause-crash
returns-else-write-clause-crash g c over is held =
    let old = c.args.self.now in
    let room = c.make_room.new.self in
    let new = c.write.new.self in
    let it = c.make_room.ensures in
    leads_from g.S.Store g.P.StorePlace.finds c.args.label.now c.args.disabled c.args.changed (over_stores g.S.Store (g.P.StorePlace.finds new.place) new.store new.shut) room.place old.place room.store old.store room.shut old.shut
    room.known.items old.known.items it.place it.store it.shut it.known (c.write.ensures.crash over (it.pattern ∙ is)) held
