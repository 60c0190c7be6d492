-- One more bar in a row.
use Rattle.std.proofs.Common.{ℕ, List, [], ◌∷◌, ◌++◌, ◌≡◌, ◌≤◌, ◌<◌, ◌+◌, ◌∙◌, min, max, ap, sym, subst, arith, length, take, get_or}
use Rattle.std.proofs.lemmas.List.{take_more, take_all}
use Rattle.std.proofs.lemmas.List.Sums.{sum_by-append}
use Rattle.std.specs.List.{sum_by}
use Rattle.run_times.specs.declared.picture.chart.Bar.{Bar}
use Rattle.run_times.specs.declared.picture.axis.Axis.{Axis}
use Rattle.run_times.specs.Axis.{IsPlace}
use Rattle.run_times.specs.Bars.{LiesIn, runs_in}
use Rattle.run_times.proofs.AxisLemmas.{between}

pub one_more : (bars : List Bar) (bar : Bar) → runs_in (bars ++ bar ∷ []) ≡ runs_in bars + bar.runs
one_more bars bar =
    let last : sum_by (λ b. b.runs) (bar ∷ []) ≡ bar.runs = omega arith in
    sum_by-append (λ b. b.runs) bars (bar ∷ []) ∙ ap (λ n. runs_in bars + n) last

-- of the bars up to a place and one more
pub up_to_one_more : (bars : List Bar) (at : ℕ) (other : Bar) → at < length bars → runs_in (take (at + 1) bars) ≡ runs_in (take at bars) + (get_or bars at other).runs
up_to_one_more bars at other there = ap runs_in (take_more bars at other there) ∙ one_more (take at bars) (get_or bars at other)

-- bars were added up to a place, and one more is
pub added_one_more : (bars : List Bar) (at : ℕ) (other : Bar) (was before now : ℕ) → at < length bars → before ≡ was + runs_in (take at bars)
    → now ≡ before + (get_or bars at other).runs → now ≡ was + runs_in (take (at + 1) bars)
added_one_more bars at other was before now there earlier added =
    let more : runs_in (take (at + 1) bars) ≡ runs_in (take at bars) + (get_or bars at other).runs = up_to_one_more bars at other there in
    omega (arith, more, earlier, added)

-- all bars were added
pub added_all : (bars : List Bar) (at was now : ℕ) → length bars ≤ at → now ≡ was + runs_in (take at bars) → now ≡ was + runs_in bars
added_all bars at was now over added = added ∙ ap (λ b. was + runs_in b) (take_all at bars over)

-- bars are whole in a place if the first second of them is there, and the last
pub lie_together : (axis : Axis) (last next : Bar) (first until behind far begin end : ℕ) → first ≡ min last.from next.from → until ≡ max last.until next.until
    → behind ≡ max until last.from → far ≡ max behind next.from → begin ≡ end → IsPlace axis.from axis.until axis.places first begin
    → IsPlace axis.from axis.until axis.places (max first far) end → LiesIn axis begin last × LiesIn axis begin next
lie_together axis last next first until behind far begin end is_first is_until is_behind is_far same begins ends =
    let there : IsPlace axis.from axis.until axis.places (max first far) begin = subst (λ p. IsPlace axis.from axis.until axis.places (max first far) p) (sym same) ends in
    let within : (at : ℕ) → first ≤ at → at ≤ max first far → IsPlace axis.from axis.until axis.places at begin =
    λ (at : ℕ) (h : first ≤ at) (k : at ≤ max first far). between axis.from axis.until axis.places first (max first far) at begin h k begins there in (
      (within last.from (grind arith) (grind arith), within (max last.from last.until) (grind arith) (grind arith)),
      (within next.from (grind arith) (grind arith), within (max next.from next.until) (grind arith) (grind arith)),
    )
