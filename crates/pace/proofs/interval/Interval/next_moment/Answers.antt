-- The goals of `Interval::next_moment` that the prover leaves open.
use Rattle.std.proofs.Common.{ℕ, ◌+◌, ◌*◌, ◌/◌, ◌-◌, ◌<◌, ◌≤◌, sym, ap, subst, ◌∙◌, rules}
use Rattle.pace.specs.Paces.{Every}
use Rattle.pace.proofs.IntervalLemmas.{next-period}
use Rattle.pace.proofs.interval.Interval.next_moment.Goals as goal
use Rattle.history_model.specs.declared.TheConstants.{SECOND}

pub returns-clause-next : goal.returns-clause-next
returns-clause-next c =
    let some : 0 < c.in_ok-seconds.seconds = search rules in
    let r = c.period_end.result in
    let from = c.from.ensures in
    let elapsed = c.saturating_sub.ensures in
    next-period c.in_ok-seconds.seconds c.self.inside.load_up some c.args.up r
    (c.period_end.ensures.value
    ∙ ap (λ f. SECOND * f * (c.saturating_sub.result / (SECOND * f) + 1)) from
    ∙ ap (λ e. SECOND * c.in_ok-seconds.seconds * (e / (SECOND * c.in_ok-seconds.seconds) + 1)) elapsed)
    (subst (λ e. e < r) elapsed c.period_end.ensures.later)
    (subst (λ (f : ℕ). (k : ℕ) → c.args.up - c.self.inside.load_up < SECOND * f * k → r ≤ SECOND * f * k) from
    (subst (λ (e : ℕ). (k : ℕ) → e < SECOND * c.from.result * k → r ≤ SECOND * c.from.result * k) elapsed c.period_end.ensures.least))
    c.args.self.now.seconds (sym c.in_ok-seconds.was ∙ ap (λ (e : Every). e.seconds) c.self.view_is)
    c.args.self.now.load_up (ap (λ (e : Every). e.load_up) c.self.view_is)
