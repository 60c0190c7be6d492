-- The runs of the bars so far are there.
use Rattle.std.proofs.Common.{◌≡◌, ◌+◌, take}
use Rattle.run_times.specs.Bars.{runs_in}
use Rattle.run_times.proofs.picture.chart.add_bars.Given as goal

abbrev pub invariant-loop-bar : goal.invariant-loop-bar
invariant-loop-bar l = runs_in l.bars.items ≡ runs_in l.fn.bars.items + runs_in (take l.bar-index l.others)
