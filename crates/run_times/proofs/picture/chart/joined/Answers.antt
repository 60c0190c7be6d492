-- What joins two bars lies in one place.
use Rattle.std.proofs.Common.{◌≡◌, refl, arith, rules}
use Rattle.run_times.proofs.BarsLemmas.{lie_together}
use Rattle.run_times.proofs.picture.chart.joined.Goals as goal

pub returns-then-is_graver : goal.returns-then-is_graver
returns-then-is_graver c =
    let same : c.edges-begin.result.0 ≡ c.edges-begin.result.1 = grind arith in
    let (last_lies, next_lies) = lie_together c.args.axis.now c.args.last c.args.next _ _ _ _ _ _ c.min-first.ensures c.max-until.ensures c.max.ensures c.max-2.ensures same c.edges-begin.ensures.begin c.edges-begin.ensures.end in
    record { place = c.edges-begin.result.0; last_lies = last_lies; next_lies = next_lies; from = refl; until = c.max-3.ensures; run = refl; runs = grind arith }

pub returns-else-is_graver : goal.returns-else-is_graver
returns-else-is_graver c =
    let same : c.edges-begin.result.0 ≡ c.edges-begin.result.1 = grind arith in
    let (last_lies, next_lies) = lie_together c.args.axis.now c.args.last c.args.next _ _ _ _ _ _ c.min-first.ensures c.max-until.ensures c.max.ensures c.max-2.ensures same c.edges-begin.ensures.begin c.edges-begin.ensures.end in
    record { place = c.edges-begin.result.0; last_lies = last_lies; next_lies = next_lies; from = refl; until = c.max-3.ensures; run = refl; runs = grind arith }
