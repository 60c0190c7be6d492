-- The answers to the goals of `OverrideStore::known`.
use Rattle.std.proofs.Common.{IsTrue, arith}
use Rattle.sqlite.specs.Held.{state}
use Rattle.sqlite.specs.State.{HasCleanDisk}
use Rattle.override_store.specs.OverrideStores.{IsOurs}
use Rattle.override_store.proofs.KnownLemmas.{known_held}
use Rattle.override_store.proofs.OverrideStore.known.Goals as goal

pub returns-clause-tells : goal.returns-clause-tells
returns-clause-tells g c early =
    let had : HasCleanDisk (state g.S.Store c.self.inside.conn) → IsOurs (state g.S.Store c.self.inside.conn) = rw c.self.view_is early in
    let held = λ (clean : HasCleanDisk (state g.S.Store c.read.new.conn)) (up : IsTrue (state g.S.Store c.read.new.conn).is_open).
    let before : HasCleanDisk (state g.S.Store c.self.inside.conn) = omega (arith, clean, c.in-Ok.ensures.crash.clean) in
    let ours = had before in
    known_held (state g.S.Store c.self.inside.conn) (state g.S.Store c.read.new.conn) c.in-Ok.rows.items c.in-Ok-all_known.all.items c.reverse.new.self.items ours (c.in-Ok.ensures.ok clean ours)
    (rw c.as_slice.ensures.value at c.in-Ok-all_known.ensures.ok) c.reverse.ensures.items (c.in-Ok.ensures.same clean ours up) in
    (λ clean up. (held clean up).0, λ clean up. (held clean up).1)

pub returns-clause-crash : goal.returns-clause-crash
returns-clause-crash g c = rw (← c.self.view_is) c.in-Ok.ensures.crash
