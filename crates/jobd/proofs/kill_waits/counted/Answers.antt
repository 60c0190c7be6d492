-- Nothing more is counted while a job waits.
use Rattle.std.proofs.Common.{true, false, inl, inr, refl, subst, arith}
use Rattle.jobd.specs.KillWaits.{AreAwaited}
use Rattle.jobd.proofs.kill_waits.counted.Goals as goal

pub returns-then-slept-before : goal.returns-then-slept-before
returns-then-slept-before c = let few = c.if-slept-before.true in inl (omega (arith, few), refl)

pub returns-then-is_kill_awaited : goal.returns-then-is_kill_awaited
returns-then-is_kill_awaited c =
    let more = c.if-slept-before.false in
    inr (omega (arith, more), true, λ s keeps. subst (λ b. AreAwaited b c.args.up s) c.if-is_kill_awaited.true (c.is_kill_awaited.ensures s keeps), refl)

pub returns : goal.returns
returns c =
    let more = c.if-slept-before.false in
    inr (omega (arith, more), false, λ s keeps. subst (λ b. AreAwaited b c.args.up s) c.if-is_kill_awaited.false (c.is_kill_awaited.ensures s keeps), refl)
