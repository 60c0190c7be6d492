-- The answers to the goals of `renewal::open_all`.
use Rattle.std.proofs.Common.{arith, subst}
use Rattle.sqlite.specs.Held.{state}
use Rattle.sqlite.specs.State.{HasCleanDisk}
use Rattle.override_store.proofs.RenewalLemmas.{leaves_held}
use Rattle.override_store.proofs.renewal.open_all.Goals as goal

pub returns-in-Ok-known-clause-holds : goal.returns-in-Ok-known-clause-holds
returns-in-Ok-known-clause-holds g c fit =
    c.in-Ok-known.ensures.tells (λ early. c.in-Ok.ensures.opened.opened early (fit (omega (arith, early, c.in-Ok.ensures.opened.clean)) (c.in-Ok.ensures.opened.was_open early)))

pub returns-in-Ok-known-clause-crash : goal.returns-in-Ok-known-clause-crash
returns-in-Ok-known-clause-crash g c =
    leaves_held (state g.S.Store c.args.conn) (state g.S.Store c.in-Ok.store) (state g.S.Store c.known.new.self) c.in-Ok.ensures.opened c.in-Ok.ensures.crash c.in-Ok-known.ensures.crash

pub returns-in-Err-known-clause-left : goal.returns-in-Err-known-clause-left
returns-in-Err-known-clause-left g c clean fit db left =
    let quiet = c.into_store.ensures.quiet in
    let after : HasCleanDisk (state g.S.Store c.close_on.result) = omega (arith, clean, quiet.clean) in
    leaves_held (state g.S.Store c.args.conn) (state g.S.Store c.in-Ok.store) (state g.S.Store c.known.new.self) c.in-Ok.ensures.opened c.in-Ok.ensures.crash c.in-Err-known.ensures.crash
    (subst (λ h. HasCleanDisk (state g.S.Store h)) c.close_on.ensures after) fit db (subst (λ h. (state g.S.Store h).may_leave db) c.close_on.ensures (quiet.outcomes db left))
