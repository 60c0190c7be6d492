-- The goals of `first_minute` that the prover leaves open.
use Rattle.std.proofs.Common.{◌/◌, ◌≤◌, sym, ◌∙◌, arith}
use Rattle.calendar_due.specs.ZoneRules.{minute_at}
use Rattle.calendar_due.proofs.NextLemmas.{behind-start, behind-next, behind-all, first-found}
use Rattle.calendar_due.proofs.calendar.first_minute.Goals as goal

pub loop-k-init : goal.loop-k-init
loop-k-init c = behind-start (minute_at c.args.zone.now) c.args.entries.now c.args.after c.args.until

pub loop-k-preserved : goal.loop-k-preserved
loop-k-preserved c =
    behind-next (minute_at c.args.zone.now) c.args.entries.now c.args.after c.args.until c.loop-k.k c.loop-k.invariant (sym c.is_matched.ensures ∙ c.if-is_matched.false)

pub returns-then-is_matched : goal.returns-then-is_matched
returns-then-is_matched c =
    first-found (minute_at c.args.zone.now) c.args.entries.now c.args.after c.args.until c.loop-k.k c.loop-k.invariant c.loop-k.auto.k c.loop-k-test.true
    (sym c.is_matched.ensures ∙ c.if-is_matched.true)

pub returns : goal.returns
returns c =
    let over : c.args.until / 60 ≤ c.loop-k.k = omega (arith, c.loop-k-test.false) in
    behind-all (minute_at c.args.zone.now) c.args.entries.now c.args.after c.args.until c.loop-k.k c.loop-k.invariant over
