-- The goals of `Zone::crossed` that the prover leaves open.
use Rattle.std.proofs.Common.{arith, ◌≡◌, ◌∙◌, ◌+◌, ◌-◌, ◌*◌, ap, map, ◌/◌}
use Rattle.history_model.specs.Calendar.{minutes_above, last_before}
use Rattle.calendar_due.specs.ZoneRules.{minute_at}
use Rattle.calendar_due.proofs.CrossedLemmas.{map-minutes_above-suc}
use Rattle.calendar_due.proofs.zone.Zone.crossed.Goals as goal

pub loop-k-preserved : goal.loop-k-preserved
loop-k-preserved c =
    let f = minute_at c.args.self.now in
    let first = c.minute_before-last_before.result in (
      c.in_ok-add_minute.ensures
          ∙ map-minutes_above-suc f first (c.loop-k.k - first) (c.loop-k.k + 1 - first) c.loop-k.k ((c.loop-k.k + 1) * 60) c.loop-k.minutes.items c.loop-k.invariant.0
          (omega (arith, c.loop-k.auto.k)) (omega (arith, c.loop-k.auto.k)) (omega arith),
      omega (arith, c.loop-k.invariant.1, c.loop-k-test.true),
    )

pub returns : goal.returns
returns c =
    let f = minute_at c.args.self.now in
    let first_is : c.minute_before-last_before.result ≡ last_before c.args.previous c.args.now = c.minute_before-last_before.ensures in
    let count : c.loop-k.k - c.minute_before-last_before.result ≡ c.args.now / 60 - c.minute_before-last_before.result =
    omega (arith, c.loop-k.invariant.1, c.loop-k-test.false, c.loop-k.auto.k) in
    c.loop-k.invariant.0 ∙ ap (λ n. map f (minutes_above c.minute_before-last_before.result n)) count
    ∙ ap (λ k. map f (minutes_above k (c.args.now / 60 - k))) first_is
