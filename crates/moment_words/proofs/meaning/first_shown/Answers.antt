-- The goals of `first_shown` that the prover leaves open.
use Rattle.std.proofs.Common.{◌/◌, ◌≤◌, sym, ◌∙◌, arith}
use Rattle.calendar_due.specs.ZoneRules.{minute_at}
use Rattle.moment_words.proofs.ShownLemmas.{behind-start, behind-next, behind-all, first-found, unshown, is_shown}
use Rattle.moment_words.proofs.meaning.first_shown.Goals as goal

pub loop-k-init : goal.loop-k-init
loop-k-init c = behind-start (minute_at c.args.zone.now) c.args.wanted.now c.args.after c.args.until

pub loop-k-preserved : goal.loop-k-preserved
loop-k-preserved c =
    behind-next (minute_at c.args.zone.now) c.args.wanted.now c.args.after c.args.until c.loop-k.k c.loop-k.invariant
    (unshown _ c.args.wanted.now _ _ c.is_on.ensures c.civil_minute.ensures c.if-is_on.false)

pub returns-then-is_on : goal.returns-then-is_on
returns-then-is_on c =
    first-found (minute_at c.args.zone.now) c.args.wanted.now c.args.after c.args.until c.loop-k.k c.loop-k.invariant c.loop-k.auto.k c.loop-k-test.true
    (is_shown _ c.args.wanted.now _ _ c.is_on.ensures c.civil_minute.ensures c.if-is_on.true)

pub returns : goal.returns
returns c =
    let over : c.args.until / 60 ≤ c.loop-k.k = omega (arith, c.loop-k-test.false) in
    behind-all (minute_at c.args.zone.now) c.args.wanted.now c.args.after c.args.until c.loop-k.k c.loop-k.invariant over
