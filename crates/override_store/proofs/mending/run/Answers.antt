-- The answers to the goals of `mending::run`.
use Rattle.std.proofs.Common.{◌≡◌, subst, rules}
use Rattle.sqlite.specs.State.{Survives}
use Rattle.sqlite.specs.Held.{state}
use Rattle.override_store.specs.KnownSettings.{HoldsTrees}
use Rattle.override_store.specs.OverrideStores.{CommitsOpen}
use Rattle.override_store.proofs.MendLemmas.{mend_survives}
use Rattle.override_store.proofs.mending.run.Goals as goal

pub returns-in-Ok : goal.returns-in-Ok
returns-in-Ok g c =
    let closed = c.commit.new.self.0 in
    let whole = mend_survives g.S.Store c.args.conn.now c.transaction-tx.result.conn.now c.fill.new.tx.conn.now c.args.known.now c.transaction-tx.ensures.begun closed c.in_ok-fill.ensures.ran c.in_ok-fill.ensures.mended
    c.in_ok-fill.ensures.crash c.commit.ensures.survives in
    let same : closed ≡ c.conn-2-1.given.0 = search rules in
    record { crash = subst (λ h. Survives (state g.S.Store c.args.conn.now) (state g.S.Store h) (λ db. CommitsOpen (state g.S.Store c.args.conn.now) (HoldsTrees db c.args.known.now))) same whole }

pub returns-in-Err : goal.returns-in-Err
returns-in-Err g c =
    let closed = c.commit.new.self.0 in
    let whole = mend_survives g.S.Store c.args.conn.now c.transaction-tx.result.conn.now c.fill.new.tx.conn.now c.args.known.now c.transaction-tx.ensures.begun closed c.in_ok-fill.ensures.ran c.in_ok-fill.ensures.mended
    c.in_ok-fill.ensures.crash c.commit.ensures.survives in
    let same : closed ≡ c.conn-2-1.given.0 = search rules in
    record { crash = subst (λ h. Survives (state g.S.Store c.args.conn.now) (state g.S.Store h) (λ db. CommitsOpen (state g.S.Store c.args.conn.now) (HoldsTrees db c.args.known.now))) same whole }
