-- The answers to the goals of `waiting::until`.
use Rattle.std.proofs.Common.{◌+◌, ◌≤◌, arith}
use Rattle.std.specs.Prelude.{max}
use Rattle.live_loop.proofs.waiting.until.Goals as goal

pub returns-in-Some-clause-longest : goal.returns-in-Some-clause-longest
returns-in-Some-clause-longest c = λ other less far.
    let near : c.args.up + other ≤ max c.args.up c.in-Some.moment = far c.in-Some.moment c.in-Some.is in
    omega (arith, c.min.ensures, c.saturating_sub.ensures, less, near)
