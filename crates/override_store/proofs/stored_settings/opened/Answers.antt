-- The answers to the goals of `stored_settings::opened`.
use Rattle.std.proofs.Common.{[], reverse}
use Rattle.override_store.proofs.stored_settings.opened.Goals as goal

pub returns-in-Ok-all-clause-holds : goal.returns-in-Ok-all-clause-holds
returns-in-Ok-all-clause-holds g c fit clean up =
    c.in-Ok-all.ensures.holds (reverse c.in-Ok-all.all.items) (λ early up_before. (c.in-Ok.ensures.opened.opened early fit, c.in-Ok-all.ensures.each clean (c.in-Ok.ensures.opened.opened early fit))) clean up

pub returns-in-Ok-all-clause-stamped : goal.returns-in-Ok-all-clause-stamped
returns-in-Ok-all-clause-stamped g c fit =
    c.in-Ok-all.ensures.stamped [] (λ early up. (c.in-Ok.ensures.opened.opened early fit, λ label second is. absurd (let none = is in cc)))
