-- The start is the next run, by the second at which that comes.
use Rattle.std.proofs.Common.{arith}
use Rattle.status_page.proofs.clocks.start_when.Goals as goal

pub returns-then-at-now : goal.returns-then-at-now
returns-then-at-now c = λ past told.
    let next = c.in-Some.ensures.least past told in
    (c.in-Some.seconds, next, omega (arith, next.0, c.saturating_add-at.ensures, c.requires.wall), c.if-at-now.true)

pub returns-else-at-now : goal.returns-else-at-now
returns-else-at-now c = λ past told.
    let next = c.in-Some.ensures.least past told in
    (c.in-Some.seconds, next, omega (arith, next.0, c.saturating_add-at.ensures, c.requires.wall), c.if-at-now.false)

pub returns-in-None : goal.returns-in-None
returns-in-None c = λ past told. c.in-None.ensures.least past told
