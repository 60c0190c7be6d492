-- The goals of `Interval::crossed` that the prover leaves open.
use Rattle.std.proofs.Common.{◌≡◌, ◌<◌, ◌*◌, ◌/◌, Some, sym, ap, ◌∙◌, nat_lt, rules}
use Rattle.history_model.specs.Clock.{crosses_interval}
use Rattle.pace.specs.Paces.{Every}
use Rattle.pace.proofs.IntervalLemmas.{crossed-period}
use Rattle.pace.proofs.interval.Interval.crossed.Goals as goal
use Rattle.history_model.specs.declared.TheConstants.{SECOND}

pub returns-in-Some-clause-period : goal.returns-in-Some-clause-period
returns-in-Some-clause-period c =
    let seconds = c.in-Some.seconds in
    let some : 0 < c.in-Some.seconds = search rules in
    let value : crosses_interval (Some c.in-Some.seconds) c.self.inside.load_up c.args.previous c.args.up
    ≡ nat_lt (c.saturating_sub.result / (SECOND * c.from-period.result)) (c.saturating_sub-in-Some.result / (SECOND * c.from-period.result)) = search rules in
    crossed-period seconds c.self.inside.load_up some c.args.previous c.args.up
    c.args.self.now.seconds (sym c.in-Some.is ∙ ap (λ (e : Every). e.seconds) c.self.view_is)
    c.args.self.now.load_up (ap (λ (e : Every). e.load_up) c.self.view_is)
    (nat_lt (c.saturating_sub.result / (SECOND * c.from-period.result)) (c.saturating_sub-in-Some.result / (SECOND * c.from-period.result))) value
